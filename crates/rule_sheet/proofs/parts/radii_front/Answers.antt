use Rattle.std.proofs.Common.{◌≡◌, ◌+◌, ◌<◌, pos, w64, FitsSigned, unsigned_abs, length, get_or, take, set, ap, ◌∙◌, arith, rules, length-set}
use Rattle.std.proofs.lemmas.Int.{to_z-of_z}
use Rattle.rule_sheet.proofs.RowLemmas.{magnitudes_more}
use Rattle.rule_sheet.proofs.parts.radii_front.Goals as goal

pub loop-k-preserved : goal.loop-k-preserved
loop-k-preserved c =
    let zs = c.args.zs.now in
    let front = c.loop-k.front in
    let k = c.loop-k.k in
    let fits : FitsSigned w64 (get_or zs k (pos 0)) = search rules in
    let value : c.unsigned_abs.result ≡ unsigned_abs (get_or zs k (pos 0)) = simp to_z-of_z at c.unsigned_abs.ensures.value in
    let inside : k < length front = omega arith in
    let before : k < length zs = omega arith in
    record {
      room = length-set front k c.unsigned_abs.result ∙ c.loop-k.invariant.room;
      same = ap (λ y. take (k + 1) (set front k y)) value ∙ magnitudes_more front zs k (pos 0) inside before c.loop-k.invariant.same;
    }
