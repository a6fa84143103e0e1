-- The definitions tried on a small field.
use Rattle.std.proofs.Common.{◌≡◌, pos, negsuc, ◌-◌, ◌*◌, Some, [], ◌∷◌, map, refl}
use Rattle.mesh_definitions.specs.Faces.{drawn}
use Rattle.mesh_definitions.specs.Field.{Field}
use Rattle.mesh_definitions.specs.Pieces.{Mesh, whole_mesh}
use Rattle.mesh_laws.specs.FaceLaws.{pull}
use Rattle.plane_laws.specs.Borders.{total}

-- two rows of three nodes, all at 1 metre, with a block for each column of cells
level : Field
level = record { rows = 2; cols = 3; x = λ j. pos (64 * j); y = λ i. pos (64 * (1 - i)); depth = λ n. Some (pos 10); levels = [] }

seam : Mesh
seam = whole_mesh level (λ i j. j)

-- where the line between the blocks meets the outline, the northern line leaves and the line between comes back, with the eastern face on the right
seam_end : (map (pull seam (λ q. q.tri.col) 1 (record { x = pos 64; y = pos 64 })) (drawn seam) ≡ pos 0 ∷ pos 1 ∷ pos 0 ∷ pos 0 ∷ pos 0 ∷ negsuc 0 ∷ pos 0 ∷ []) × (total (pull seam (λ q. q.tri.col) 1 (record { x = pos 64; y = pos 64 })) (drawn seam) ≡ pos 0)
unfolding level seam
seam_end = (refl, refl)
