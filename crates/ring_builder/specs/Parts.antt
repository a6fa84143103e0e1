-- The parts of rings: edges in their own direction or back, and which of them border a set of faces.
use Rattle.std.specs.List.{range_with_len}
use Rattle.std.specs.Prelude.{ℕ, Bool, true, false, cond, nat_eq, Option, Some, None, List, [], ◌∷◌, length, slice_index_or, map, flat_map, reverse}
use Rattle.boundary_arcs.specs.Edges.{arc_of}
use Rattle.boundary_arcs.specs.declared.arc.Arc.{Arc}
use Rattle.boundary_arcs.specs.declared.arc.Side.TheVariants.{Outside, Face}
use Rattle.boundary_arcs.specs.declared.arc.Side.{Side}
use Rattle.plane_geom.specs.Segments.{joins, turned}
use Rattle.plane_geom.specs.declared.Seg.{Seg}
use Rattle.ring_builder.specs.declared.ring.Part.{Part}
use Rattle.ring_cutter.specs.declared.Hop.{Hop}

-- the number of the set that each face belongs to, from a list of them
abbrev pub numbers : List ℕ → ℕ → ℕ
numbers owners face = slice_index_or owners face 0

-- the number of the set on a side, none outside
abbrev pub owner_on : (ℕ → ℕ) → Side → Option ℕ
owner_on owner Outside = None
owner_on owner (Face face) = Some (owner face)

-- whether there is a set, and it is set k
abbrev pub is_set : ℕ → Option ℕ → Bool
is_set k None = false
is_set k (Some x) = nat_eq x k

-- edge n as a part that borders a set: forward where the set is on its right alone, back where it is on its left alone, else none
abbrev pub parts_of : Bool → Bool → ℕ → List Part
parts_of right left n = cond right (cond left [] (record { arc = n; forward = true } ∷ [])) (cond left (record { arc = n; forward = false } ∷ []) [])

-- the same of an edge with its sides
abbrev pub parts_at : (ℕ → ℕ) → ℕ → Arc → ℕ → List Part
parts_at owner k a n = parts_of (is_set k (owner_on owner a.right)) (is_set k (owner_on owner a.left)) n

-- the edges that border set k as parts with the set on the right, in the order of their numbers
abbrev pub bordering : List Arc → (ℕ → ℕ) → ℕ → List Part
bordering arcs owner k = flat_map (λ n. parts_at owner k (arc_of arcs n) n) (range_with_len 0 (length arcs))

-- a part from the node that it leaves to the node that it comes to
abbrev pub hop_of : List Arc → Part → Hop
hop_of arcs p =
    let a = arc_of arcs p.arc in
    cond p.forward (record { begin = a.begin; end = a.end }) (record { begin = a.end; end = a.begin })

-- the segments of a part, for one back in reversed order and each turned round
abbrev pub part_segments : List Arc → Part → List Seg
part_segments arcs p =
    let segments = joins (arc_of arcs p.arc).points in
    cond p.forward segments (map turned (reverse segments))
