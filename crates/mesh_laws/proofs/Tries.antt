-- The definitions tried on a small field.
use Rattle.std.proofs.Common.{◌≡◌, pos, negsuc, true, Some, [], ◌∷◌, map, refl}
use Rattle.mesh_definitions.specs.Faces.{boundary}
use Rattle.mesh_definitions.specs.Field.{field_of}
use Rattle.mesh_definitions.specs.Pieces.{Mesh, whole_mesh, same_piece}
use Rattle.mesh_definitions.specs.declared.Piece.{Piece}
use Rattle.mesh_laws.specs.Walks.{here, leaving}
use Rattle.plane_geom.specs.declared.Point.{Point}

-- 4 metres in the west and 6 in the east, with a level at 5 metres
rising : Mesh
rising = whole_mesh (field_of (record { grid = record { xs = pos 0 ∷ pos 32000 ∷ []; ys = pos 32000 ∷ pos 0 ∷ []; depths = [] }; opened = []; charted = Some (pos 40) ∷ Some (pos 60) ∷ Some (pos 40) ∷ Some (pos 60) ∷ [] }) (pos 50 ∷ [])) (λ i j. 0)

-- the shoaler piece of the upper triangle, and where its chord ends
west : Piece
west = record { tri = record { row = 0; col = 0; upper = true }; band = 0 }

top : Point
top = record { x = pos 16000; y = pos 32000 }

there : (here top top ≡ pos 1) × (here top (record { x = pos 16000; y = pos 16000 }) ≡ pos 0)
unfolding top
there = (refl, refl)

-- one step of its outline ends there, the part of the northern link, and one begins there, the chord
ends_and_begins : map (leaving rising top) (boundary rising (same_piece west)) ≡ negsuc 0 ∷ pos 0 ∷ pos 0 ∷ pos 1 ∷ []
unfolding rising west top
ends_and_begins = refl
