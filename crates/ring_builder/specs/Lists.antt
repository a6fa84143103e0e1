-- Lists of parts under way, one for each set, and what is cut from them.
use Rattle.std.specs.List.{range_with_len}
use Rattle.std.specs.Prelude.{◌≡◌, ℕ, ◌<◌, ◌++◌, Option, Some, false, List, [], length, map, flat_map, slice_index_or, All}
use Rattle.boundary_arcs.specs.Edges.{arc_of}
use Rattle.boundary_arcs.specs.declared.arc.Arc.{Arc}
use Rattle.mesh_definitions.specs.Rings.{is_exterior}
use Rattle.ring_builder.specs.Parts.{parts_at, hop_of}
use Rattle.ring_builder.specs.Rings.{ring_segments}
use Rattle.ring_builder.specs.declared.ring.Part.{Part}
use Rattle.ring_builder.specs.declared.ring.Ring.{Ring}
use Rattle.ring_cutter.specs.Rings.{CutsIntoRings}

-- a set, if there is one, is one of so many
abbrev pub IsBelow : ℕ → Option ℕ → Type 0
IsBelow sets owner = (k : ℕ) → owner ≡ Some k → k < sets

-- the list of set k
abbrev pub list_at : List (List Part) → ℕ → List Part
list_at lists k = slice_index_or lists k []

-- parts are put at the end of each list, for some sets none
pub record Adds (added : ℕ → List Part) (lists lists' : List (List Part)) : Type 0 where
  pub wide : length lists' ≡ length lists
  pub each : (k : ℕ) → k < length lists → list_at lists' k ≡ list_at lists k ++ added k

-- the first n edges that border set k as parts
abbrev pub first_parts : List Arc → (ℕ → ℕ) → ℕ → ℕ → List Part
first_parts arcs owner n k = flat_map (λ i. parts_at owner k (arc_of arcs i) i) (range_with_len 0 n)

-- each set's list has those of the first n edges that border it
pub record HasParts (arcs : List Arc) (owner : ℕ → ℕ) (sets n : ℕ) (lists : List (List Part)) : Type 0 where
  pub wide : length lists ≡ sets
  pub each : (k : ℕ) → k < sets → list_at lists k ≡ first_parts arcs owner n k

-- as many lists, all empty
pub record AreEmpty (sets : ℕ) (lists : List (List Part)) : Type 0 where
  pub wide : length lists ≡ sets
  pub each : (k : ℕ) → list_at lists k ≡ []

-- the part at a place
abbrev pub part_at : List Part → ℕ → Part
part_at parts i = slice_index_or parts i (record { arc = 0; forward = false })

-- a part is one of the edges
abbrev pub IsPart : List Arc → Part → Type 0
IsPart arcs p = p.arc < length arcs

-- rings have the parts at these places, ring by ring, and are exterior by their areas
pub record HavePlaces (arcs : List Arc) (parts : List Part) (cut : List (List ℕ)) (rings : List Ring) : Type 0 where
  pub each : map (λ (r : Ring). r.parts) rings ≡ map (map (part_at parts)) cut
  pub exterior : All (λ (r : Ring). r.exterior ≡ is_exterior (ring_segments arcs r)) rings

-- rings are cut from these parts
pub record AreCut (arcs : List Arc) (parts : List Part) (rings : List Ring) : Type 0 where
  pub cut : List (List ℕ)
  pub cuts : CutsIntoRings (map (hop_of arcs) parts) cut
  pub places : HavePlaces arcs parts cut rings
