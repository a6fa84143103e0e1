-- The bands of a link's parts are bands of the surveyed triangles beside it.
use Rattle.std.proofs.Common.{◌≡◌, ℕ, zero, suc, ◌+◌, Bool, true, false, cond, Some, None, add-one, refl, subst, arith}
use Rattle.std.specs.Prelude.{is_some}
use Rattle.face_fill.specs.Ends.{HasEnds, all_three, ends_by}
use Rattle.boundary_arcs.specs.Collecting.{link_at, walk_along, tri_at}
use Rattle.mesh_definitions.specs.Field.{Field}
use Rattle.mesh_definitions.specs.Mesh.{has_cell, right_tri, surveyed}
use Rattle.mesh_definitions.specs.declared.Link.{Link}
use Rattle.mesh_definitions.specs.declared.Rect.{Rect}
use Rattle.mesh_definitions.specs.declared.Tri.{Tri}
use Rattle.mesh_definitions.specs.declared.Way.TheVariants.{Across, Down, Slant}
use Rattle.mesh_definitions.specs.declared.Way.{Way}

module _ (f : Field) (i j : ℕ) where
  -- the links of an upper triangle
  module _ (h : surveyed f (tri_at i j true) ≡ true) where
    north_west : is_some (f.depth (record { row = i; col = j })) ≡ true
    north_west = (all_three (is_some (f.depth (record { row = i; col = j }))) (is_some (f.depth (record { row = i; col = j + 1 }))) (is_some (f.depth (record { row = i + 1; col = j }))) h).0

    north_east : is_some (f.depth (record { row = i; col = j + 1 })) ≡ true
    north_east = (all_three (is_some (f.depth (record { row = i; col = j }))) (is_some (f.depth (record { row = i; col = j + 1 }))) (is_some (f.depth (record { row = i + 1; col = j }))) h).1

    south_west : is_some (f.depth (record { row = i + 1; col = j })) ≡ true
    south_west = (all_three (is_some (f.depth (record { row = i; col = j }))) (is_some (f.depth (record { row = i; col = j + 1 }))) (is_some (f.depth (record { row = i + 1; col = j }))) h).2

    upper_across : HasEnds f (tri_at i j true) (link_at Across i j)
    upper_across = ends_by f (tri_at i j true) (link_at Across i j) north_west north_east (omega arith) (omega arith) (omega arith) (omega arith)

    upper_down : HasEnds f (tri_at i j true) (link_at Down i j)
    upper_down = ends_by f (tri_at i j true) (link_at Down i j) north_west south_west (omega arith) (omega arith) (omega arith) (omega arith)

    upper_slant : HasEnds f (tri_at i j true) (link_at Slant i j)
    upper_slant = ends_by f (tri_at i j true) (link_at Slant i j) south_west north_east (omega arith) (omega arith) (omega arith) (omega arith)

  -- those of a lower one
  module _ (h : surveyed f (tri_at i j false) ≡ true) where
    south_west' : is_some (f.depth (record { row = i + 1; col = j })) ≡ true
    south_west' = (all_three (is_some (f.depth (record { row = i + 1; col = j }))) (is_some (f.depth (record { row = i; col = j + 1 }))) (is_some (f.depth (record { row = i + 1; col = j + 1 }))) h).0

    north_east' : is_some (f.depth (record { row = i; col = j + 1 })) ≡ true
    north_east' = (all_three (is_some (f.depth (record { row = i + 1; col = j }))) (is_some (f.depth (record { row = i; col = j + 1 }))) (is_some (f.depth (record { row = i + 1; col = j + 1 }))) h).1

    south_east' : is_some (f.depth (record { row = i + 1; col = j + 1 })) ≡ true
    south_east' = (all_three (is_some (f.depth (record { row = i + 1; col = j }))) (is_some (f.depth (record { row = i; col = j + 1 }))) (is_some (f.depth (record { row = i + 1; col = j + 1 }))) h).2

    lower_across : HasEnds f (tri_at i j false) (link_at Across (i + 1) j)
    lower_across = ends_by f (tri_at i j false) (link_at Across (i + 1) j) south_west' south_east' (omega arith) (omega arith) (omega arith) (omega arith)

    lower_down : HasEnds f (tri_at i j false) (link_at Down i (j + 1))
    lower_down = ends_by f (tri_at i j false) (link_at Down i (j + 1)) north_east' south_east' (omega arith) (omega arith) (omega arith) (omega arith)

    lower_slant : HasEnds f (tri_at i j false) (link_at Slant i j)
    lower_slant = ends_by f (tri_at i j false) (link_at Slant i j) south_west' north_east' (omega arith) (omega arith) (omega arith) (omega arith)

-- ---- the triangles beside a link

-- a triangle beside a link is in the rectangle, and where it is surveyed the link's bands are among its own
pub record LiesBeside (f : Field) (r : Rect) (l : Link) (t : Tri) : Type 0 where
  pub inside : has_cell r t.row t.col ≡ true
  pub ends : surveyed f t ≡ true → HasEnds f t l

in_cell : (f : Field) (r : Rect) (l : Link) (i j : ℕ) (u : Bool) (t : Tri) → (surveyed f (tri_at i j u) ≡ true → HasEnds f (tri_at i j u) l) → cond (has_cell r i j) (Some (tri_at i j u)) None ≡ Some t → LiesBeside f r l t
in_cell f r l i j u t ends e = by (has_cell r i j) refl e
  where
    by : (b : Bool) → has_cell r i j ≡ b → cond b (Some (tri_at i j u)) None ≡ Some t → LiesBeside f r l t
    by true h g =
        let same : tri_at i j u ≡ t = cc in
        subst (LiesBeside f r l) same (record { inside = h; ends = ends })
    by false h g = cc

pub lies_beside : (f : Field) (r : Rect) (l : Link) (forward : Bool) (t : Tri) → right_tri r (walk_along l forward) ≡ Some t → LiesBeside f r l t
lies_beside f r l forward t e = by l.way l.row l.col forward e
  where
    by : (way : Way) (i j : ℕ) (forward : Bool) → right_tri r (walk_along (link_at way i j) forward) ≡ Some t → LiesBeside f r (link_at way i j) t
    by Across i j true h = in_cell f r (link_at Across i j) i j true t (upper_across f i j) h
    by Across zero j false h = cc
    by Across (suc i) j false h = in_cell f r (link_at Across (suc i) j) i j false t (λ s. subst (λ k. HasEnds f (tri_at i j false) (link_at Across k j)) (add-one i) (lower_across f i j s)) h
    by Down i zero true h = cc
    by Down i (suc j) true h = in_cell f r (link_at Down i (suc j)) i j false t (λ s. subst (λ k. HasEnds f (tri_at i j false) (link_at Down i k)) (add-one j) (lower_down f i j s)) h
    by Down i j false h = in_cell f r (link_at Down i j) i j true t (upper_down f i j) h
    by Slant i j true h = in_cell f r (link_at Slant i j) i j false t (lower_slant f i j) h
    by Slant i j false h = in_cell f r (link_at Slant i j) i j true t (upper_slant f i j) h
