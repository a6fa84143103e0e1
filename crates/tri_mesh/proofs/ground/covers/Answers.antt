use Rattle.std.proofs.Common.{refl, arith, rules}
use Rattle.std.proofs.lemmas.Bool.{false≢true}
use Rattle.std.proofs.lemmas.Int.{ints, to_z-of_z}
use Rattle.tri_mesh.proofs.ground.covers.Goals.{then-p-y-via-then-p-y, then-p-y-via-else-p-y+then-y-p}
use Rattle.tri_mesh.proofs.ground.covers.Goals as goal

pub returns-then-p-y : goal.returns-then-p-y
returns-then-p-y c = λ levels. (λ e. absurd (false≢true e), λ h. let w = h.west in let n = h.north in let s = h.south in elim c.then-p-y.branch [ then-p-y-via-then-p-y w ↦ grind (arith, ints, to_z-of_z) | then-p-y-via-else-p-y+then-y-p w ↦ grind (arith, ints, to_z-of_z) ])

pub returns : goal.returns
returns c = λ levels. (λ e. record { west = search rules; east = search rules; south = search rules; north = search rules }, λ h. refl)
