-- The bands and the blocks of faces.
use Rattle.std.proofs.Common.{◌≡◌, ℕ, ◌<◌, ◌≤◌, max, Bool, true, false, cond, List, [], ◌∷◌, length, get_or, All, ⊎_elim, refl, sym, ap, ◌∙◌, subst, arith}
use Rattle.std.specs.Prelude.{fold}
use Rattle.std.proofs.lemmas.Bool.{cases_lt}
use Rattle.std.proofs.lemmas.Grind.{get_or_default_zero}
use Rattle.std.proofs.lemmas.List.Sums.{count_by-le-length}
use Rattle.std.proofs.lemmas.List.{get_or_past}
use Rattle.built_parts.specs.Contours.{HasBands}
use Rattle.mesh_definitions.specs.Blocks.{IsBlocks}
use Rattle.mesh_definitions.specs.Field.{Field, band_at}
use Rattle.mesh_definitions.specs.Mesh.{all_cells, corners, surveyed}
use Rattle.mesh_definitions.specs.Pieces.{greatest_band}
use Rattle.mesh_definitions.specs.declared.Class.TheVariants.{Band, Unsurveyed}
use Rattle.mesh_definitions.specs.declared.Piece.{Piece}
use Rattle.mesh_definitions.specs.declared.Rect.{Rect}
use Rattle.mesh_definitions.specs.declared.Tri.{Tri}
use Rattle.depth_grid.specs.declared.node.NodeId.{NodeId}
use Rattle.face_fill.specs.Ends.{count_surveyed}
use Rattle.face_fill.specs.Listed.{InMesh, of_list}
use Rattle.face_fill.specs.Numbered.{AreFaces, FacesView, block_of, class_of}

corner_small : (f : Field) (n : NodeId) → band_at f n ≤ length f.levels
corner_small f n = count_by-le-length _ f.levels

fold_small : (f : Field) (b : ℕ) (ns : List NodeId) → b ≤ length f.levels → fold (λ b n. max b (band_at f n)) b ns ≤ length f.levels
fold_small f b [] h = h
fold_small f b (n ∷ ns) h = fold_small f (max b (band_at f n)) ns (omega (arith, h, corner_small f n))

greatest_small : (f : Field) (t : Tri) → greatest_band f t ≤ length f.levels
greatest_small f t = fold_small f 0 (corners t) (omega arith)

band_small : (f : Field) (r : Rect) (p : Piece) → InMesh f r p → surveyed f p.tri ≡ true → p.band ≤ length f.levels
band_small f r p h e = let n = count_surveyed f p.tri e in omega (arith, n.0, n.1, h.low, h.high, greatest_small f p.tri)

module _ (f : Field) (block : ℕ → ℕ → ℕ) (v : FacesView) (h : AreFaces f block v) where
  of_class : (p : Piece) (b : ℕ) (s : Bool) → InMesh f (all_cells f) p → surveyed f p.tri ≡ s → cond s (Band p.band) Unsurveyed ≡ Band b → b ≤ length f.levels
  of_class p b true m e is = let same : p.band ≡ b = cc (is) in subst (λ n. n ≤ length f.levels) same (band_small f (all_cells f) p m e)
  of_class p b false m e is = cc (is)

  -- no face's band is above the number of levels
  pub bands_known : HasBands (length f.levels) v
  bands_known k b e = ⊎_elim inside beyond (cases_lt k (length v.classes))
    where
      inside : k < length v.classes → b ≤ length f.levels
      inside l =
          let u = h.gapless.used k l in
          let is : cond (surveyed f u.0.tri) (Band u.0.band) Unsurveyed ≡ Band b = sym (ap (class_of v) (sym u.2) ∙ h.classes u.0 u.1) ∙ e in
          of_class u.0 b (surveyed f u.0.tri) (of_list f (all_cells f) block u.0 u.1) refl is

      beyond : length v.classes ≤ k → b ≤ length f.levels
      beyond l = let is : Unsurveyed ≡ Band b = sym (get_or_past v.classes k Unsurveyed l) ∙ e in cc (is)

  -- each face's block is one of the blocks
  pub blocks_known : (count : ℕ) (rect : ℕ → Rect) → IsBlocks (all_cells f) count rect block → length v.blocks ≡ length v.classes → All (λ n. n < count) v.blocks
  blocks_known count rect are full i d l =
      let u = h.gapless.used i (omega (arith, l, full)) in
      let m = of_list f (all_cells f) block u.0 u.1 in
      let is : block u.0.tri.row u.0.tri.col ≡ get_or v.blocks i d = sym (get_or_default_zero v.blocks i d l ∙ ap (block_of v) (sym u.2) ∙ h.blocks u.0 u.1) in
      subst (λ n. n < count) is (are.below u.0.tri.row u.0.tri.col m.cell)
