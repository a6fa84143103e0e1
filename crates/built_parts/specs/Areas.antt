-- Areas as features: faces, and the coverage and the quality of blocks.
use Rattle.std.specs.List.{flat_map, range_with_len}
use Rattle.std.specs.Prelude.{ℕ, ℤ, ◌+◌, ◌<◌, Bool, cond, eqb, Option, Some, None, List, [], ◌∷◌, ◌++◌, All, length, map, slice_index_or}
use Rattle.boundary_arcs.specs.Edges.{arc_of}
use Rattle.boundary_arcs.specs.declared.arc.Arc.{Arc}
use Rattle.boundary_arcs.specs.declared.arc.Side.TheVariants.{Outside, Face}
use Rattle.boundary_arcs.specs.declared.arc.Side.{Side}
use Rattle.built_parts.specs.Contents.{FeatureContent}
use Rattle.built_parts.specs.declared.EdgePlace.TheVariants.{Border, Seam, Within}
use Rattle.built_parts.specs.declared.EdgePlace.{EdgePlace}
use Rattle.mesh_definitions.specs.declared.Class.TheVariants.{Unsurveyed, Band}
use Rattle.mesh_definitions.specs.declared.Class.{Class}
use Rattle.chart_model.specs.declared.records.Attribute.{Attribute}
use Rattle.chart_model.specs.declared.records.Pointer.{Pointer}
use Rattle.depth_rounding.specs.Bands.{deeper_end, shoaler_end}
use Rattle.exact_num.specs.Printed.{decimetres}
use Rattle.face_fill.specs.Numbered.{FacesView, block_of, class_of}
use Rattle.ring_builder.specs.declared.ring.Part.{Part}
use Rattle.ring_builder.specs.declared.ring.Ring.{Ring}
use Rattle.s57_codes.specs.Catalogue.{attl_catcov, attl_catzoc, attl_drval1, attl_drval2, mask_hidden, mask_shown, null, objl_depare, objl_m_covr, objl_m_qual, objl_unsare, ornt_forward, ornt_reverse, prim_area, rcnm_edge, usag_exterior, usag_interior, usag_truncated}

-- ---- pointers

-- where an edge lies, by the faces on its sides
abbrev pub line_of : FacesView → Side → Side → EdgePlace
line_of v Outside right = Border
line_of v (Face a) Outside = Border
line_of v (Face a) (Face b) = cond (eqb (block_of v a) (block_of v b)) Within Seam

-- USAG and MASK of a pointer to an edge, on an exterior ring or another
abbrev pub usag_of : Bool → EdgePlace → ℕ
usag_of exterior Border = usag_truncated
usag_of exterior Seam = cond exterior usag_exterior usag_interior
usag_of exterior Within = cond exterior usag_exterior usag_interior

abbrev pub mask_of : EdgePlace → ℕ
mask_of Border = null
mask_of Seam = mask_hidden
mask_of Within = mask_shown

-- the pointer to an edge on a ring
abbrev pub pointer_of : FacesView → List Arc → Bool → Part → Pointer
pointer_of v arcs exterior p =
    let a = arc_of arcs p.arc in
    record { rcnm = rcnm_edge; rcid = p.arc + 1; ornt = cond p.forward ornt_forward ornt_reverse; usag = usag_of exterior (line_of v a.left a.right); mask = mask_of (line_of v a.left a.right) }

-- a ring's edges are there
abbrev pub NamesArcs : List Arc → Ring → Type 0
NamesArcs arcs r = All (λ (p : Part). p.arc < length arcs) r.parts

abbrev pub ring_pointers : FacesView → List Arc → Ring → List Pointer
ring_pointers v arcs r = map (pointer_of v arcs r.exterior) r.parts

-- the pointers of the exterior rings, and those of the others
abbrev pub exteriors : FacesView → List Arc → List Ring → List Pointer
exteriors v arcs rings = flat_map (λ (r : Ring). cond r.exterior (ring_pointers v arcs r) []) rings

abbrev pub interiors : FacesView → List Arc → List Ring → List Pointer
interiors v arcs rings = flat_map (λ (r : Ring). cond r.exterior [] (ring_pointers v arcs r)) rings

-- an area's pointers ring by ring, those of exterior rings first
abbrev pub area_pointers : FacesView → List Arc → List Ring → List Pointer
area_pointers v arcs rings = exteriors v arcs rings ++ interiors v arcs rings

-- the rings of the area at a place
abbrev pub rings_in : List (List Ring) → ℕ → List Ring
rings_in rings k = slice_index_or rings k []

-- ---- faces

-- an attribute with a depth, in decimetres
abbrev pub depth_of : ℕ → ℤ → Attribute
depth_of code dm = record { code = code; text = decimetres dm }

-- object code and attributes of a class, where charted depths lie between the least and the greatest
abbrev pub object_of : Class → ℕ
object_of Unsurveyed = objl_unsare
object_of (Band b) = objl_depare

abbrev pub attributes_of : List ℤ → ℤ → ℤ → Class → List Attribute
attributes_of levels least greatest Unsurveyed = []
attributes_of levels least greatest (Band b) = depth_of attl_drval1 (shoaler_end levels least b) ∷ depth_of attl_drval2 (deeper_end levels least greatest b) ∷ []

-- the area of a face with these rings
abbrev pub area_content : List ℤ → ℤ → ℤ → FacesView → List Arc → Class → List Ring → FeatureContent
area_content levels least greatest v arcs class rings = record { prim = prim_area; grup = 1; objl = object_of class; attributes = attributes_of levels least greatest class; pointers = area_pointers v arcs rings }

-- the areas of all faces, in the order of their numbers
abbrev pub area_contents : List ℤ → ℤ → ℤ → FacesView → List Arc → List (List Ring) → List FeatureContent
area_contents levels least greatest v arcs rings = map (λ k. area_content levels least greatest v arcs (class_of v k) (rings_in rings k)) (range_with_len 0 (length rings))

-- ---- blocks

-- an area of a block with one attribute of one digit
abbrev pub block_content : ℕ → ℕ → ℕ → FacesView → List Arc → List Ring → FeatureContent
block_content objl code digit v arcs rings = record { prim = prim_area; grup = 2; objl = objl; attributes = record { code = code; text = (48 + digit) ∷ [] } ∷ []; pointers = area_pointers v arcs rings }

abbrev pub block_contents : ℕ → ℕ → ℕ → FacesView → List Arc → List (List Ring) → List FeatureContent
block_contents objl code digit v arcs rings = map (λ k. block_content objl code digit v arcs (rings_in rings k)) (range_with_len 0 (length rings))

-- where there is a category, the quality of the blocks
abbrev pub quality_contents : Option ℕ → FacesView → List Arc → List (List Ring) → List FeatureContent
quality_contents None v arcs rings = []
quality_contents (Some zone) v arcs rings = block_contents objl_m_qual attl_catzoc zone v arcs rings

-- the coverage of the blocks, and then their quality
abbrev pub coverage_contents : Option ℕ → FacesView → List Arc → List (List Ring) → List FeatureContent
coverage_contents quality v arcs rings = block_contents objl_m_covr attl_catcov 1 v arcs rings ++ quality_contents quality v arcs rings
