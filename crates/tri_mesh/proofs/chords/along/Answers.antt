use Rattle.std.proofs.Common.{◌≡◌, ◌*◌, ◌/◌, pos, ◌-ℤ◌, ◌<ℤ◌, w32, FitsSigned, to_z, of_z, sym, ap, ◌∙◌, rules}
use Rattle.std.specs.Prelude.{unsigned_abs}
use Rattle.std.specs.Int.{saturate_signed}
use Rattle.std.proofs.lemmas.Int.{to_z-of_z}
use Rattle.tri_mesh.proofs.Chording.{along_down, stays, down_fits, part_within}
use Rattle.tri_mesh.proofs.chords.along.Goals as goal

pub returns-else-line : goal.returns-else-line
returns-else-line c =
    let l = c.args.line in
    let less : l.to <ℤ l.from = search rules in
    let from_fits : FitsSigned w32 l.from = search rules in
    let to_fits : FitsSigned w32 l.to = search rules in
    let fits : FitsSigned w32 c.saturating_sub_unsigned.result = search rules in
    let size : c.abs_diff.result ≡ unsigned_abs (l.to -ℤ l.from) = search rules in
    let gave : c.saturating_sub_unsigned.result ≡ saturate_signed w32 (l.from -ℤ pos (c.abs_diff.result / l.steps * c.args.slot)) = simp to_z-of_z at c.saturating_sub_unsigned.ensures in
    let same = ap (λ n. saturate_signed w32 (l.from -ℤ pos (n / l.steps * c.args.slot))) size in
    let p = unsigned_abs (l.to -ℤ l.from) / l.steps * c.args.slot in
    let plain = stays (l.from -ℤ pos p) (down_fits l.from l.to p from_fits to_fits less (part_within (unsigned_abs (l.to -ℤ l.from)) l.steps c.args.slot c.requires.within)) in
    let whole : to_z w32 (of_z w32 c.saturating_sub_unsigned.result) ≡ c.saturating_sub_unsigned.result = simp to_z-of_z in
    whole ∙ (gave ∙ (same ∙ (plain ∙ sym (along_down l.from l.to l.steps c.args.slot less))))
