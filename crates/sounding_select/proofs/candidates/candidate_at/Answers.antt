use Rattle.std.proofs.Common.{rules, ◌≡◌, ◌≤ℤ◌, ◌+◌, ◌*◌, pos, length, Some, w32, FitsSigned, to_z, of_z, sym, ◌∙◌, ap, subst, arith}
use Rattle.std.specs.Prelude.{unwrap_or}
use Rattle.std.proofs.lemmas.Int.{ints, to_z-of_z}
use Rattle.shoal_buffer.specs.Charted.{IsKept, g_at}
use Rattle.shoal_buffer.specs.Views.{charted_view}
use Rattle.sounding_select.proofs.candidates.candidate_at.Goals as goal

pub new-requires-clause-deepest : goal.new-requires-clause-deepest
new-requires-clause-deepest c =
    let v = charted_view c.args.ch.now in
    let depth = c.in-Some-Some.depth in
    let fits : FitsSigned w32 depth = search rules in
    let same : to_z w32 (of_z w32 depth) ≡ depth = simp to_z-of_z in
    let kept : IsKept v c.args.node.row c.args.node.col = search rules in
    let told : Some depth ≡ g_at v c.args.node.row c.args.node.col = search rules in
    let own : depth ≡ kept.0 = ap (λ o. unwrap_or o (pos 0)) (told ∙ kept.2) in
    let limit = (c.args.ch.now.grid.now.limited (c.args.node.row * length v.grid.xs + c.args.node.col) kept.0 kept.1).1 in
    subst (λ z. z ≤ℤ pos 12000000) (sym own ∙ sym same) limit
