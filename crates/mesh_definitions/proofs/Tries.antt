-- The definitions tried on small fields.
use Rattle.std.proofs.Common.{◌≡◌, ℤ, pos, negsuc, ◌+◌, ◌-◌, ◌*◌, ◌*ℤ◌, true, false, cond, eqb, Some, None, List, [], ◌∷◌, ◌++◌, replicate, length, map, refl}
use Rattle.std.specs.List.{range_with_len}
use Rattle.mesh_definitions.specs.Blocks.{first_part, second_part}
use Rattle.mesh_definitions.specs.Edges.{lines_at}
use Rattle.mesh_definitions.specs.Rings.{area_sum, is_exterior}
use Rattle.mesh_definitions.specs.Cuts.{common, slope, lattice_steps, slot_of, crossing}
use Rattle.mesh_definitions.specs.Faces.{boundary, drawn}
use Rattle.mesh_definitions.specs.Field.{Field, field_of}
use Rattle.mesh_definitions.specs.Mesh.{first, second}
use Rattle.mesh_definitions.specs.Pieces.{whole_mesh, chord_ends, walked}
use Rattle.mesh_definitions.specs.declared.Link.{Link}
use Rattle.mesh_definitions.specs.declared.Tri.{Tri}
use Rattle.mesh_definitions.specs.declared.Way.TheVariants.{Across, Slant}
use Rattle.depth_rounding.specs.Steps.{shoal_of}
use Rattle.shoal_buffer.specs.Charted.{ChartedView}

six : common 12 18 ≡ 6
six = refl

-- nodes all at 1 metre, two rows of two, and one level
flat : Field
flat = record { rows = 2; cols = 2; x = λ j. pos (32 * j); y = λ i. pos (32 * (1 - i)); depth = λ n. Some (pos 10); levels = pos 5 ∷ [] }

flat_mesh : (length (whole_mesh flat (λ i j. 0)).pieces ≡ 2) × (length (whole_mesh flat (λ i j. 0)).subs ≡ 5)
unfolding flat
flat_mesh = (refl, refl)

flat_lines : (length (drawn (whole_mesh flat (λ i j. 0))) ≡ 4) × (length (boundary (whole_mesh flat (λ i j. 0)) (λ p. true)) ≡ 4)
unfolding flat
flat_lines = (refl, refl)

-- two rows of three nodes, 0 and 10 metres in turn, three levels
rough : Field
rough = record { rows = 2; cols = 3; x = λ j. pos (64 * j); y = λ i. pos (64 * (1 - i)); depth = λ n. Some (cond (eqb n.col 1) (pos 100) (pos 0)); levels = pos 10 ∷ pos 20 ∷ pos 50 ∷ [] }

rough_mesh : (length (whole_mesh rough (λ i j. 0)).pieces ≡ 16) × (length (drawn (whole_mesh rough (λ i j. 0))) ≡ 30) × (length (boundary (whole_mesh rough (λ i j. 0)) (λ p. true)) ≡ 18)
unfolding rough
rough_mesh = (refl, refl, refl)

top : Link
top = record { way = Across; row = 0; col = 0 }

rough_crossing : (lattice_steps rough (slope rough (first top) (second top)) ≡ 64) × (crossing rough (slope rough (first top) (second top)) 2 ≡ record { x = pos 13; y = pos 64 })
unfolding rough top
rough_crossing = (refl, refl)

upper : Tri
upper = record { row = 0; col = 0; upper = true }

lower : Tri
lower = record { row = 0; col = 0; upper = false }

-- the deep side is east, so the chord runs north
rough_chord : chord_ends rough upper 3 ≡ record { a = record { x = pos 32; y = pos 32 }; b = record { x = pos 32; y = pos 64 } }
unfolding rough upper
rough_chord = refl

-- a generalised grid of two rows of two nodes 0.0032 degrees apart, with these charted depths
square : List ℤ → ChartedView
square depths = record { grid = record { xs = pos 0 ∷ pos 32000 ∷ []; ys = pos 32000 ∷ pos 0 ∷ []; depths = map (λ c. Some (pos 100 *ℤ c)) depths }; opened = map (λ c. Some (pos 100 *ℤ c)) depths; charted = map (λ c. Some c) depths }

-- 4 metres in the west and 6 in the east, with a level at 5 metres
rising : Field
rising = field_of (square (pos 40 ∷ pos 60 ∷ pos 40 ∷ pos 60 ∷ [])) (pos 50 ∷ [])

rising_chords : (chord_ends rising upper 1 ≡ record { a = record { x = pos 16000; y = pos 16000 }; b = record { x = pos 16000; y = pos 32000 } }) × (chord_ends rising lower 1 ≡ record { a = record { x = pos 16000; y = pos 0 }; b = record { x = pos 16000; y = pos 16000 } })
unfolding rising upper lower square
rising_chords = (refl, refl)

rising_drawn : length (drawn (whole_mesh rising (λ i j. 0))) ≡ 8
unfolding rising square
rising_drawn = refl

-- where the east stands on the level, the crossing keeps off the node
level_east : Field
level_east = field_of (square (pos 40 ∷ pos 50 ∷ pos 40 ∷ pos 50 ∷ [])) (pos 50 ∷ [])

level_chord : chord_ends level_east upper 1 ≡ record { a = record { x = pos 31999; y = pos 31999 }; b = record { x = pos 31999; y = pos 32000 } }
unfolding level_east upper square
level_chord = refl

-- two rows of two nodes 0.0000096 by 0.0000128 degrees apart, 0 metres in the west and 12,000 in the east, with 20 levels from 0.1 metres on: the diagonal has 32 lattice steps, and each slot is pushed up to its number
steep : Field
steep = field_of (record { grid = record { xs = pos 0 ∷ pos 96 ∷ []; ys = pos 128 ∷ pos 0 ∷ []; depths = [] }; opened = []; charted = map (λ c. Some c) (pos 0 ∷ pos 120000 ∷ pos 0 ∷ pos 120000 ∷ []) }) (map (λ k. pos k) (range_with_len 1 20))

diagonal : Link
diagonal = record { way = Slant; row = 0; col = 0 }

steep_slots : (lattice_steps steep (slope steep (first diagonal) (second diagonal)) ≡ 32) × (map (slot_of steep (slope steep (first diagonal) (second diagonal))) (1 ∷ 2 ∷ 10 ∷ 20 ∷ []) ≡ 1 ∷ 2 ∷ 10 ∷ 20 ∷ [])
unfolding steep diagonal
steep_slots = (refl, refl)

-- the same from the other end: slots run from the shoaler node, and here they are capped
steep_back : Field
steep_back = field_of (record { grid = record { xs = pos 0 ∷ pos 96 ∷ []; ys = pos 128 ∷ pos 0 ∷ []; depths = [] }; opened = []; charted = map (λ c. Some c) (pos 120000 ∷ pos 0 ∷ pos 120000 ∷ pos 0 ∷ []) }) (map (λ k. pos (119980 + k)) (range_with_len 1 20))

steep_capped : map (slot_of steep_back (slope steep_back (first diagonal) (second diagonal))) (1 ∷ 2 ∷ 10 ∷ 20 ∷ []) ≡ 12 ∷ 13 ∷ 21 ∷ 31 ∷ []
unfolding steep_back diagonal
steep_capped = refl

shoals : map (shoal_of (pos 210 ∷ pos 310 ∷ []) (pos 1 ∷ pos 5 ∷ pos 10 ∷ [])) (pos 20999 ∷ pos 21400 ∷ pos 30999 ∷ pos 31999 ∷ negsuc 349 ∷ pos 0 ∷ []) ≡ pos 209 ∷ pos 210 ∷ pos 305 ∷ pos 310 ∷ negsuc 3 ∷ pos 0 ∷ []
shoals = refl

-- three rows of three nodes, none in the middle: two surveyed triangles and a hexagon
hole : Field
hole = field_of (record { grid = record { xs = pos 0 ∷ pos 32000 ∷ pos 64000 ∷ []; ys = pos 64000 ∷ pos 32000 ∷ pos 0 ∷ []; depths = [] }; opened = []; charted = replicate 4 (Some (pos 100)) ++ (None ∷ replicate 4 (Some (pos 100))) }) []

hole_lines : (length (whole_mesh hole (λ i j. 0)).pieces ≡ 8) × (length (drawn (whole_mesh hole (λ i j. 0))) ≡ 10)
unfolding hole
hole_lines = (refl, refl)

-- the greater part of an odd side is the northern or western one, and equal sides are cut between columns
halves : (first_part (record { row = 3; col = 0; rows = 17; cols = 16 }) ≡ record { row = 3; col = 0; rows = 9; cols = 16 }) × (second_part (record { row = 3; col = 0; rows = 17; cols = 16 }) ≡ record { row = 12; col = 0; rows = 8; cols = 16 }) × (first_part (record { row = 0; col = 5; rows = 17; cols = 17 }) ≡ record { row = 0; col = 5; rows = 17; cols = 9 }) × (second_part (record { row = 0; col = 5; rows = 17; cols = 17 }) ≡ record { row = 0; col = 14; rows = 17; cols = 8 })
halves = (refl, refl, refl, refl)

-- two rows of three nodes, all at 1 metre
level_field : Field
level_field = record { rows = 2; cols = 3; x = λ j. pos (64 * j); y = λ i. pos (64 * (1 - i)); depth = λ n. Some (pos 10); levels = [] }

-- a block line between two columns of cells is drawn, beside the six sub-segments of the outline
seam_lines : length (drawn (whole_mesh level_field (λ i j. j))) ≡ 7
unfolding level_field
seam_lines = refl

clockwise : (area_sum (map (walked (whole_mesh flat (λ i j. 0))) (boundary (whole_mesh flat (λ i j. 0)) (λ p. true))) ≡ pos 2048) × (is_exterior (map (walked (whole_mesh flat (λ i j. 0))) (boundary (whole_mesh flat (λ i j. 0)) (λ p. true))) ≡ true)
unfolding flat
clockwise = (refl, refl)

-- at a corner of the outline two lines end, at the ends of a chord on it three
ends : (lines_at (whole_mesh rising (λ i j. 0)) (record { x = pos 0; y = pos 0 }) ≡ 2) × (lines_at (whole_mesh rising (λ i j. 0)) (record { x = pos 16000; y = pos 32000 }) ≡ 3) × (lines_at (whole_mesh rising (λ i j. 0)) (record { x = pos 16000; y = pos 16000 }) ≡ 2)
unfolding rising square
ends = (refl, refl, refl)
