-- Contours and soundings as features.
use Rattle.std.specs.List.{flat_map, range_with_len}
use Rattle.std.specs.Prelude.{◌≡◌, ℕ, ℤ, ◌+◌, ◌-◌, ◌≤◌, cond, eqb, Option, Some, None, List, [], ◌∷◌, length, map}
use Rattle.boundary_arcs.specs.Edges.{arc_of}
use Rattle.boundary_arcs.specs.declared.arc.Arc.{Arc}
use Rattle.boundary_arcs.specs.declared.arc.Side.TheVariants.{Outside, Face}
use Rattle.boundary_arcs.specs.declared.arc.Side.{Side}
use Rattle.built_parts.specs.Contents.{FeatureContent, pointer}
use Rattle.mesh_definitions.specs.declared.Class.TheVariants.{Unsurveyed, Band}
use Rattle.mesh_definitions.specs.declared.Class.{Class}
use Rattle.chart_model.specs.declared.records.Attribute.{Attribute}
use Rattle.depth_rounding.specs.Bands.{level_at}
use Rattle.exact_num.specs.Printed.{decimetres}
use Rattle.face_fill.specs.Numbered.{FacesView, block_of, class_of}
use Rattle.s57_codes.specs.Catalogue.{attl_valdco, null, objl_depcnt, objl_soundg, ornt_forward, prim_line, prim_point, rcnm_edge, rcnm_isolated_node}

-- the bands of faces are those of so many levels
abbrev pub HasBands : ℕ → FacesView → Type 0
HasBands levels v = (k b : ℕ) → class_of v k ≡ Band b → b ≤ levels

-- the number, from 1, of the level between two neighbouring bands
abbrev pub level_between : Class → Class → Option ℕ
level_between Unsurveyed b = None
level_between (Band a) Unsurveyed = None
level_between (Band a) (Band b) = cond (eqb (a + 1) b) (Some b) (cond (eqb (b + 1) a) (Some a) None)

-- the level between the faces on two sides, if they are in one block
abbrev pub level_on : FacesView → Side → Side → Option ℕ
level_on v Outside right = None
level_on v (Face a) Outside = None
level_on v (Face a) (Face b) = cond (eqb (block_of v a) (block_of v b)) (level_between (class_of v a) (class_of v b)) None

-- the depth of a contour, in decimetres
abbrev pub value_of : ℤ → List Attribute
value_of level = record { code = attl_valdco; text = decimetres level } ∷ []

-- the contour of a level along the edge at a place
abbrev pub contour_content : List ℤ → ℕ → ℕ → FeatureContent
contour_content levels k level = record { prim = prim_line; grup = 2; objl = objl_depcnt; attributes = value_of (level_at levels (level - 1)); pointers = pointer rcnm_edge (k + 1) ornt_forward ∷ [] }

-- the contour of a level, if there is one
abbrev pub contour_of : List ℤ → ℕ → Option ℕ → List FeatureContent
contour_of levels k None = []
contour_of levels k (Some level) = contour_content levels k level ∷ []

-- the contour along an edge, if a level draws it
abbrev pub contour_at : List ℤ → FacesView → Arc → ℕ → List FeatureContent
contour_at levels v a k = contour_of levels k (level_on v a.left a.right)

-- the contours, in the order of the edges
abbrev pub contour_contents : List ℤ → FacesView → List Arc → List FeatureContent
contour_contents levels v arcs = flat_map (λ k. contour_at levels v (arc_of arcs k) k) (range_with_len 0 (length arcs))

-- the soundings at the isolated node at a place
abbrev pub sounding_content : ℕ → FeatureContent
sounding_content k = record { prim = prim_point; grup = 2; objl = objl_soundg; attributes = []; pointers = pointer rcnm_isolated_node (k + 1) null ∷ [] }

abbrev pub sounding_contents : ℕ → List FeatureContent
sounding_contents nodes = map sounding_content (range_with_len 0 nodes)
