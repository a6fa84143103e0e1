use Rattle.std.proofs.Common.{◌≡◌, sym, ◌∙◌, pos, neg_ℤ, negsuc, ◌-ℤ◌, to_z, of_z, w64, arith}
use Rattle.std.proofs.lemmas.Int.{ints}
use Rattle.grid_reader.proofs.Thousandths.{floor_is, rounded_above, rounded_below, rounded_exactly}
use Rattle.grid_reader.proofs.millimetres.rounded_down.Goals as goal

pub returns-then-not-value : goal.returns-then-not-value
returns-then-not-value c = record {
  value = λ n h.
      let v = c.args.value in
      let is : to_z w64 v.whole ≡ pos v.whole = omega (arith, ints, c.requires.few) in
      is ∙ rounded_above v.negative v.whole v.left c.if-not-value.true ∙ sym (floor_is n v h);
}

pub returns-then-value : goal.returns-then-value
returns-then-value c = record {
  value = λ n h.
      let v = c.args.value in
      let is : to_z w64 (of_z w64 (to_z w64 (of_z w64 (pos 0 -ℤ to_z w64 v.whole)) -ℤ pos 1)) ≡ negsuc v.whole = omega (arith, ints, c.requires.few) in
      is ∙ rounded_below v.negative v.whole v.left c.if-not-value.false c.if-value.true ∙ sym (floor_is n v h);
}

pub returns : goal.returns
returns c = record {
  value = λ n h.
      let v = c.args.value in
      let is : to_z w64 (of_z w64 (pos 0 -ℤ to_z w64 v.whole)) ≡ neg_ℤ (pos v.whole) = omega (arith, ints, c.requires.few) in
      is ∙ rounded_exactly v.negative v.whole v.left c.if-not-value.false c.if-value.false ∙ sym (floor_is n v h);
}
