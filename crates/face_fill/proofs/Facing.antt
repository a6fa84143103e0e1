-- The items of pieces at parts of links.
use Rattle.std.proofs.Common.{◌≡◌, ℕ, ◌+◌, ◌-◌, ◌≤◌, true, false, cond, List, length, get_or, sym, ap, ◌∙◌, arith}
use Rattle.mesh_definitions.specs.Field.{Field}
use Rattle.mesh_definitions.specs.Mesh.{surveyed}
use Rattle.mesh_definitions.specs.Pieces.{piece_at, pieces_of, least_band}
use Rattle.mesh_definitions.specs.declared.Piece.{Piece}
use Rattle.mesh_definitions.specs.declared.Rect.{Rect}
use Rattle.mesh_definitions.specs.declared.Tri.{Tri}
use Rattle.face_fill.specs.Ends.{count_surveyed}
use Rattle.face_fill.specs.Listed.{InMesh}
use Rattle.face_fill.specs.Numbered.{first_band}
use Rattle.face_fill.specs.Items.{item_of}
use Rattle.tri_mesh.specs.TriNumbers.{place_in}

module _ (f : Field) (r : Rect) (starts : List ℕ) (t : Tri) (b : ℕ) where
  pub item_surveyed : surveyed f t ≡ true → (least : ℕ) → least ≡ least_band f t → item_of f r starts (piece_at f b t) ≡ get_or starts (place_in r t) 0 + (b - least)
  item_surveyed s least l =
      ap (λ x. get_or starts (place_in r t) 0 + (cond x b 0 - first_band f t)) s ∙ ap (λ n. get_or starts (place_in r t) 0 + (b - n)) ((count_surveyed f t s).0 ∙ sym l)

  pub low_surveyed : surveyed f t ≡ true → InMesh f r (piece_at f b t) → least_band f t ≤ b
  low_surveyed s h =
      let low : first_band f t ≤ cond (surveyed f t) b 0 = h.low in
      let e : cond (surveyed f t) b 0 ≡ b = ap (λ x. cond x b 0) s in
      omega (arith, low, e, (count_surveyed f t s).0)

  pub item_unsurveyed : surveyed f t ≡ false → item_of f r starts (piece_at f b t) ≡ get_or starts (place_in r t) 0
  item_unsurveyed s =
      let z : get_or starts (place_in r t) 0 + (0 - first_band f t) ≡ get_or starts (place_in r t) 0 = omega arith in
      ap (λ x. get_or starts (place_in r t) 0 + (cond x b 0 - first_band f t)) s ∙ z

-- the one piece of a triangle has its first item
pub item_alone : (f : Field) (r : Rect) (starts : List ℕ) (p : Piece) → InMesh f r p → length (pieces_of f p.tri) ≡ 1 → item_of f r starts p ≡ get_or starts (place_in r p.tri) 0
item_alone f r starts p m one = omega (arith, m.low, m.high, one)
