-- The definitions on the smallest cases, by computation.
use Rattle.std.proofs.Common.{◌≡◌, ℕ, pos, negsuc, Some, None, List, [], ◌∷◌, ◌++◌, true, take, drop, refl}
use Rattle.boundary_arcs.specs.ChainEdges.{chain_points}
use Rattle.boundary_arcs.specs.Edges.{inner, pull}
use Rattle.boundary_arcs.specs.declared.arc.Arc.{Arc}
use Rattle.boundary_arcs.specs.declared.arc.Side.TheVariants.{Outside, Face}
use Rattle.chains.specs.declared.Half.{Half}
use Rattle.chains.specs.declared.Line.{Line}
use Rattle.mesh_definitions.specs.Edges.{IsFirstOf}
use Rattle.plane_geom.specs.declared.Point.{Point}

abbrev at : ℕ → ℕ → Point
at x y = record { x = pos x; y = pos y }

-- ---- a cell that lies alone: its border, walked from the north-eastern corner and with the cell on the right

corners : List Point
corners = at 0 32 ∷ at 32 32 ∷ at 32 0 ∷ at 0 0 ∷ []

abbrev line : ℕ → ℕ → Line
line begin end = record { begin = begin; end = end; left = None; right = Some 0 }

border : List Line
border = line 0 1 ∷ line 1 2 ∷ line 2 3 ∷ line 3 0 ∷ []

abbrev ahead : ℕ → Half
ahead i = record { line = i; forward = true }

round : List Half
round = ahead 1 ∷ ahead 2 ∷ ahead 3 ∷ ahead 0 ∷ []

-- the south-western corner is the least, so the walk is turned round by two lines
turned : drop 2 round ++ take 2 round ≡ ahead 3 ∷ ahead 0 ∷ ahead 1 ∷ ahead 2 ∷ []
unfolding round
turned = refl

its_points : chain_points corners border (drop 2 round ++ take 2 round) ≡ at 0 0 ∷ at 0 32 ∷ at 32 32 ∷ at 32 0 ∷ at 0 0 ∷ []
unfolding corners border round
its_points = refl

the_least : IsFirstOf (at 0 0) (at 0 32)
the_least = refl

west_before_south : IsFirstOf (at 0 32) (at 32 0)
west_before_south = refl

edge : Arc
edge = record { points = at 0 0 ∷ at 0 32 ∷ at 32 32 ∷ at 32 0 ∷ at 0 0 ∷ []; begin = 0; end = 0; left = Outside; right = Face 0 }

its_inner_points : inner edge ≡ at 0 32 ∷ at 32 32 ∷ at 32 0 ∷ []
unfolding edge
its_inner_points = refl

it_begins_and_ends : pull 0 0 edge ≡ pos 0
unfolding edge
it_begins_and_ends = refl

-- ---- a contour from node 0 to node 1 between face 0, on its right, and face 1

contour : Arc
contour = record { points = at 0 16 ∷ at 32 16 ∷ []; begin = 0; end = 1; left = Face 1; right = Face 0 }

nothing_between : inner contour ≡ []
unfolding contour
nothing_between = refl

begins_with_its_face : pull 0 0 contour ≡ pos 1
unfolding contour
begins_with_its_face = refl

ends_with_its_face : pull 0 1 contour ≡ negsuc 0
unfolding contour
ends_with_its_face = refl

ends_with_the_other_face : pull 1 0 contour ≡ negsuc 0
unfolding contour
ends_with_the_other_face = refl
