-- The rings of sets of faces.
use Rattle.std.specs.List.{Any}
use Rattle.std.specs.Prelude.{◌≡◌, ℕ, ◌<◌, eqb, IsTrue, List, [], length, map, flat_map, slice_index_or, All, Contains, IsPermutation}
use Rattle.boundary_arcs.specs.Edges.{AreArcsOf}
use Rattle.boundary_arcs.specs.declared.arc.Arc.{Arc}
use Rattle.mesh_definitions.specs.Faces.{NumbersFaces, borders}
use Rattle.mesh_definitions.specs.Field.{Field, IsField}
use Rattle.mesh_definitions.specs.Pieces.{Mesh, whole_mesh}
use Rattle.mesh_definitions.specs.Rings.{AreRingsOf, IsRing, is_exterior}
use Rattle.mesh_definitions.specs.declared.Piece.{Piece}
use Rattle.plane_geom.specs.declared.Seg.{Seg}
use Rattle.plane_laws.specs.Borders.{HasPieces}
use Rattle.ring_builder.specs.Parts.{bordering, part_segments}
use Rattle.ring_builder.specs.declared.ring.Ring.{Ring}

-- the segments of a ring, part by part
abbrev pub ring_segments : List Arc → Ring → List Seg
ring_segments arcs r = flat_map (part_segments arcs) r.parts

-- the rings of set k: each edge that borders it is in one of them, once, with the set on its right
pub record AreRings (arcs : List Arc) (owner : ℕ → ℕ) (k : ℕ) (rings : List Ring) : Type 0 where
  pub once : IsPermutation (bordering arcs owner k) (flat_map (λ (r : Ring). r.parts) rings)
  pub closed : All (λ r. IsRing (ring_segments arcs r)) rings
  pub exterior : All (λ (r : Ring). r.exterior ≡ is_exterior (ring_segments arcs r)) rings

-- the rings of each of so many sets, by their numbers
pub record HasRings (arcs : List Arc) (owner : ℕ → ℕ) (sets : ℕ) (all : List (List Ring)) : Type 0 where
  pub each : length all ≡ sets
  pub rings : (k : ℕ) → k < sets → AreRings arcs owner k (slice_index_or all k [])

-- edges are those of a mesh whose pieces have the numbers of their faces: each piece stands once, pieces have one number just where chains of adjacent pieces join them, and each drawn sub-segment stands in one edge, once
pub record AreEdgesOf (m : Mesh) (face : Piece → ℕ) (arcs : List Arc) : Type 0 where
  pub pieces : HasPieces (borders m) m.pieces
  pub faces : NumbersFaces m face
  pub arcs_are : AreArcsOf m face arcs

-- in each mesh that the edges are those of, the rings of face k have its directed boundary as their segments, each once
abbrev pub BoundFaces : List Arc → ℕ → List (List Ring) → Type 0
BoundFaces arcs faces all = (m : Mesh) (face : Piece → ℕ) → AreEdgesOf m face arcs → (k : ℕ) → k < faces → AreRingsOf m (λ p. eqb (face p) k) (map (ring_segments arcs) (slice_index_or all k []))

-- and those of set k the directed boundary of the pieces of number k, where each piece has the number of the set of its face, as of its block
abbrev pub BoundSets : List Arc → (ℕ → ℕ) → ℕ → List (List Ring) → Type 0
BoundSets arcs owner sets all = (m : Mesh) (face number : Piece → ℕ) → AreEdgesOf m face arcs → ((p : Piece) → Contains m.pieces p → owner (face p) ≡ number p) →
    (k : ℕ) → k < sets → AreRingsOf m (λ p. eqb (number p) k) (map (ring_segments arcs) (slice_index_or all k []))

-- at least one of these rings is exterior
abbrev pub HasExterior : List Ring → Type 0
HasExterior rings = Any (λ (r : Ring). IsTrue r.exterior) rings

-- where the edges are those of the mesh of a field, whatever its blocks, the face of each piece has an exterior ring
abbrev pub FacesHaveExteriors : List Arc → ℕ → List (List Ring) → Type 0
FacesHaveExteriors arcs faces all = (f : Field) (block : ℕ → ℕ → ℕ) (face : Piece → ℕ) → IsField f → AreEdgesOf (whole_mesh f block) face arcs →
    (p : Piece) → Contains (whole_mesh f block).pieces p → face p < faces → HasExterior (slice_index_or all (face p) [])

-- and so has the set of each piece, where each piece has the number of the set of its face
abbrev pub SetsHaveExteriors : List Arc → (ℕ → ℕ) → ℕ → List (List Ring) → Type 0
SetsHaveExteriors arcs owner sets all = (f : Field) (block : ℕ → ℕ → ℕ) (face number : Piece → ℕ) → IsField f → AreEdgesOf (whole_mesh f block) face arcs → ((p : Piece) → Contains (whole_mesh f block).pieces p → owner (face p) ≡ number p) →
    (p : Piece) → Contains (whole_mesh f block).pieces p → number p < sets → HasExterior (slice_index_or all (number p) [])
