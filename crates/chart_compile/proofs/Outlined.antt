-- The rings of one area of many, and how many areas blocks have.
use Rattle.std.proofs.Common.{◌≡◌, ℕ, ◌<◌, List, [], Global, Vec, get_or, length, map, sym, ap, ◌∙◌}
use Rattle.std.proofs.lemmas.List.{get_or-map}
use Rattle.std.proofs.lemmas.List.FromFn.{length-map-range_with_len}
use Rattle.boundary_arcs.specs.declared.arc.Arc.{Arc}
use Rattle.built_parts.specs.Areas.{block_content, block_contents, rings_in}
use Rattle.face_fill.specs.Numbered.{FacesView}
use Rattle.ring_builder.specs.declared.ring.Ring.{Ring}

-- what stands at a place as a vector are the rings of the area at that place
pub rings_there : (rings : List (Vec Ring Global)) (k : ℕ) (v : Vec Ring Global) (xs : List Ring) → k < length rings → v ≡ get_or rings k v → xs ≡ v.items → xs ≡ rings_in (map (λ (w : Vec Ring Global). w.items) rings) k
rings_there rings k v xs lt is so =
    so ∙ ap (λ (w : Vec Ring Global). w.items) is ∙ sym (get_or-map (λ (w : Vec Ring Global). w.items) rings k v [] lt)

-- each block has one
pub blocks_length : (objl code digit : ℕ) (v : FacesView) (arcs : List Arc) (rings : List (List Ring)) → length (block_contents objl code digit v arcs rings) ≡ length rings
blocks_length objl code digit v arcs rings = length-map-range_with_len (λ k. block_content objl code digit v arcs (rings_in rings k)) 0 (length rings)
