use Rattle.std.proofs.Common.{◌≡◌, ◌≢◌, ◌++◌, ◌∷◌, ◌∙◌, map, ap, subst, sym}
use Rattle.std.specs.Prelude.{AllPairs}
use Rattle.std.specs.Vec.Iter.{into_iter_items}
use Rattle.record_table.proofs.Single.{none_before}
use Rattle.record_table.proofs.Table.new.Goals as goal

pub push-requires : goal.push-requires
push-requires g c =
    let number = g.X.Numbered.number in
    let table = c.loop-record.table in
    let rest = into_iter_items c.next.new.self in
    let all : table ++ c.in-Some.record ∷ rest ≡ c.args.records.items = ap (λ xs. table ++ xs) (sym c.in-Some.ensures.steps.0) ∙ c.loop-record.invariant in
    none_before number table rest c.in-Some.record (subst (λ xs. AllPairs ◌≢◌ (map number xs)) (sym all) c.requires)
