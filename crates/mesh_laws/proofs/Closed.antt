-- The outline of a piece is closed.
use Rattle.std.proofs.Common.{◌≡◌, ℕ, ◌+◌, ℤ, pos, ◌+ℤ◌, ◌-ℤ◌, neg_ℤ, Bool, true, false, cond, ◌&&◌, eqb, [], ◌∷◌, refl, ap, ap₂, ◌∙◌, subst, arith, ⊎_elim}
use Rattle.std.specs.Prelude.{is_some}
use Rattle.std.proofs.lemmas.Int.{ints}
use Rattle.mesh_definitions.proofs.Bands.{band_known}
use Rattle.mesh_definitions.specs.Faces.{boundary}
use Rattle.mesh_definitions.specs.Field.{Field, point, band_at}
use Rattle.mesh_definitions.specs.Laws.{WalksBothWays}
use Rattle.mesh_definitions.specs.Mesh.{Walk, from, to, first, second, legs, surveyed}
use Rattle.mesh_definitions.specs.Pieces.{mesh_of, walked, same_piece, part_bands}
use Rattle.mesh_definitions.specs.declared.Piece.{Piece}
use Rattle.mesh_definitions.specs.declared.Rect.{Rect}
use Rattle.mesh_definitions.specs.declared.Step.{Step}
use Rattle.mesh_definitions.specs.declared.Tri.{Tri}
use Rattle.mesh_definitions.specs.declared.Way.TheVariants.{Across, Down, Slant}
use Rattle.mesh_laws.specs.PieceLaws.{PiecesClosed}
use Rattle.mesh_laws.specs.Walks.{here}
use Rattle.mesh_laws.proofs.Chords.{chord_fall, deep_closed}
use Rattle.mesh_laws.proofs.Legs.{fall, taken, deep_fall, whole_fall, band_fall}
use Rattle.mesh_laws.proofs.Listed.{bands_of, piece_there}
use Rattle.mesh_laws.proofs.Shares.{IsReversed, leg_share, chord_share, no_chords, two_chords, along_outline}
use Rattle.mesh_laws.proofs.Triangles.{tri, walk, IsCell}
use Rattle.plane_geom.specs.declared.Point.{Point}
use Rattle.plane_laws.specs.Borders.{total}
use Rattle.plane_laws.specs.SumLaws.{BoundarySum}
use Rattle.plane_laws.proofs.Members.{In, is_in}
use Rattle.plane_laws.proofs.Sums.{total-sub}

-- a segment walked back rises by what it falls by
fall_back : (h : Point → ℤ) → IsReversed (fall h)
fall_back h s = opposite (h s.a) (h s.b)
  where
    opposite : (x y : ℤ) → y -ℤ x ≡ neg_ℤ (x -ℤ y)
    opposite x y = omega (arith, ints)

-- ---- the legs of one triangle

three_true : (a b c : Bool) → (a && (b && (c && true))) ≡ true → (a ≡ true) × (b ≡ true) × (c ≡ true)
three_true true true true e = (refl, refl, refl)
three_true true true false e = absurd (cc (e))
three_true true false c e = absurd (cc (e))
three_true false b c e = absurd (cc (e))

module _ (f : Field) (h : Point → ℤ) where
  -- a leg between nodes with data, in a surveyed triangle
  surveyed_leg : (t : Tri) (b : ℕ) (w : Walk) → surveyed f t ≡ true → is_some (f.depth (first w.link)) ≡ true → is_some (f.depth (second w.link)) ≡ true →
      leg_share f (fall h) t b w ≡ deep_fall f h w b -ℤ deep_fall f h w (b + 1)
  surveyed_leg t b w e p q =
      ap (λ s. total (λ k. cond (eqb b (cond s k 0)) (taken f h w k) (pos 0)) (part_bands f w.link)) e
      ∙ band_fall f h w (band_at f (first w.link)) (band_at f (second w.link)) (band_known f (first w.link) p) (band_known f (second w.link) q) b

  -- the one piece of an unsurveyed triangle has its legs whole
  open_leg : (t : Tri) (w : Walk) → surveyed f t ≡ false → leg_share f (fall h) t 0 w ≡ h (point f (from w)) -ℤ h (point f (to w))
  open_leg t w e =
      ap (λ s. total (λ k. cond (eqb 0 (cond s k 0)) (taken f h w k) (pos 0)) (part_bands f w.link)) e
      ∙ whole_fall f h w

  three_same : (g k : Walk → ℤ) (w1 w2 w3 : Walk) → g w1 ≡ k w1 → g w2 ≡ k w2 → g w3 ≡ k w3 → total g (w1 ∷ w2 ∷ w3 ∷ []) ≡ total k (w1 ∷ w2 ∷ w3 ∷ [])
  three_same g k w1 w2 w3 a b c = ap₂ ◌+ℤ◌ a (ap₂ ◌+ℤ◌ b (ap (λ z. z +ℤ pos 0) c))

  round : (p q r : ℤ) → (p -ℤ q) +ℤ ((q -ℤ r) +ℤ ((r -ℤ p) +ℤ pos 0)) ≡ pos 0
  round p q r = omega (arith, ints)

  module _ (i j : ℕ) where
    surveyed_legs : (u : Bool) (b : ℕ) → surveyed f (tri i j u) ≡ true → total (leg_share f (fall h) (tri i j u) b) (legs (tri i j u)) ≡ total (λ w. deep_fall f h w b -ℤ deep_fall f h w (b + 1)) (legs (tri i j u))
    surveyed_legs true b e =
        let t = tri i j true in
        let d = three_true (is_some (f.depth (record { row = i; col = j }))) (is_some (f.depth (record { row = i; col = j + 1 }))) (is_some (f.depth (record { row = i + 1; col = j }))) e in
        three_same (leg_share f (fall h) t b) (λ w. deep_fall f h w b -ℤ deep_fall f h w (b + 1)) (walk Across i j true) (walk Slant i j false) (walk Down i j false)
        (surveyed_leg t b (walk Across i j true) e d.0 d.1) (surveyed_leg t b (walk Slant i j false) e d.2 d.1) (surveyed_leg t b (walk Down i j false) e d.0 d.2)
    surveyed_legs false b e =
        let t = tri i j false in
        let d = three_true (is_some (f.depth (record { row = i + 1; col = j }))) (is_some (f.depth (record { row = i; col = j + 1 }))) (is_some (f.depth (record { row = i + 1; col = j + 1 }))) e in
        three_same (leg_share f (fall h) t b) (λ w. deep_fall f h w b -ℤ deep_fall f h w (b + 1)) (walk Slant i j true) (walk Down i (j + 1) true) (walk Across (i + 1) j false)
        (surveyed_leg t b (walk Slant i j true) e d.0 d.1) (surveyed_leg t b (walk Down i (j + 1) true) e d.1 d.2) (surveyed_leg t b (walk Across (i + 1) j false) e d.0 d.2)

    open_legs : (u : Bool) → surveyed f (tri i j u) ≡ false → total (leg_share f (fall h) (tri i j u) 0) (legs (tri i j u)) ≡ pos 0
    open_legs true e =
        let t = tri i j true in
        three_same (leg_share f (fall h) t 0) (λ w. h (point f (from w)) -ℤ h (point f (to w))) (walk Across i j true) (walk Slant i j false) (walk Down i j false)
        (open_leg t (walk Across i j true) e) (open_leg t (walk Slant i j false) e) (open_leg t (walk Down i j false) e)
        ∙ round (h (point f (record { row = i; col = j }))) (h (point f (record { row = i; col = j + 1 }))) (h (point f (record { row = i + 1; col = j })))
    open_legs false e =
        let t = tri i j false in
        three_same (leg_share f (fall h) t 0) (λ w. h (point f (from w)) -ℤ h (point f (to w))) (walk Slant i j true) (walk Down i (j + 1) true) (walk Across (i + 1) j false)
        (open_leg t (walk Slant i j true) e) (open_leg t (walk Down i (j + 1) true) e) (open_leg t (walk Across (i + 1) j false) e)
        ∙ round (h (point f (record { row = i + 1; col = j }))) (h (point f (record { row = i; col = j + 1 }))) (h (point f (record { row = i + 1; col = j + 1 })))

  module _ (r : Rect) (block : ℕ → ℕ → ℕ) (t : Tri) where
    cancels : (s x y c d u : ℤ) → s ≡ x -ℤ y → u ≡ c -ℤ d → x +ℤ c ≡ pos 0 → y +ℤ d ≡ pos 0 → s +ℤ u ≡ pos 0
    cancels s x y c d u p q e g = omega (arith, ints, p, q, e, g)

    nothing : {s u : ℤ} → s ≡ pos 0 → u ≡ pos 0 → s +ℤ u ≡ pos 0
    nothing p q = omega (arith, ints, p, q)

    surveyed_closes : (b : ℕ) → surveyed f t ≡ true → total (leg_share f (fall h) t b) (legs t) +ℤ chord_share f r block (fall h) t b t ≡ pos 0
    surveyed_closes b e = cancels
        (total (leg_share f (fall h) t b) (legs t)) (total (λ w. deep_fall f h w b) (legs t)) (total (λ w. deep_fall f h w (b + 1)) (legs t)) (chord_fall f h t b) (chord_fall f h t (b + 1)) (chord_share f r block (fall h) t b t)
        (surveyed_legs t.row t.col t.upper b e ∙ total-sub (λ w. deep_fall f h w b) (λ w. deep_fall f h w (b + 1)) (legs t))
        (two_chords f r block (fall h) t b (fall_back h) e)
        (deep_closed f h t b)
        (deep_closed f h t (b + 1))

    open_closes : surveyed f t ≡ false → total (leg_share f (fall h) t 0) (legs t) +ℤ chord_share f r block (fall h) t 0 t ≡ pos 0
    open_closes e = nothing (open_legs t.row t.col t.upper e) (no_chords f r block (fall h) t 0 e)

-- ---- the outline of a piece

module _ (sum : BoundarySum Step Piece) (ways : WalksBothWays) (f : Field) (r : Rect) (block : ℕ → ℕ → ℕ) (h : Point → ℤ) (q : Piece) where
  closes : In (bands_of f q.tri) q.band → total (leg_share f (fall h) q.tri q.band) (legs q.tri) +ℤ chord_share f r block (fall h) q.tri q.band q.tri ≡ pos 0
  closes i = by (surveyed f q.tri) refl
    where
      by : (s : Bool) → surveyed f q.tri ≡ s → total (leg_share f (fall h) q.tri q.band) (legs q.tri) +ℤ chord_share f r block (fall h) q.tri q.band q.tri ≡ pos 0
      by true e = surveyed_closes f h r block q.tri q.band e
      by false e =
          let only : In (0 ∷ []) q.band = subst (λ bands. In bands q.band) (let g : bands_of f q.tri ≡ 0 ∷ [] = rw e refl in g) i in
          let zero_band : 0 ≡ q.band = ⊎_elim (λ x. x) (λ n. absurd n) only in
          subst (λ b. total (leg_share f (fall h) q.tri b) (legs q.tri) +ℤ chord_share f r block (fall h) q.tri b q.tri ≡ pos 0) zero_band (open_closes f h r block q.tri e)

  pub outline_falls : IsCell r q.tri.row q.tri.col → In (bands_of f q.tri) q.band → total (λ s. fall h (walked (mesh_of f r block) s)) (boundary (mesh_of f r block) (same_piece q)) ≡ pos 0
  outline_falls c i = along_outline sum ways f r block (fall h) (fall_back h) q c ∙ closes i

pub pieces_closed : BoundarySum Step Piece → WalksBothWays → PiecesClosed
pieces_closed sum ways f r block q p there =
    let k = piece_there f r q (is_in (mesh_of f r block).pieces q there) in
    outline_falls sum ways f r block (here p) q k.0 k.1
