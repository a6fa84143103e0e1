-- How long the boundary of a face is.
use Rattle.std.proofs.Common.{◌≡◌, ℕ, ◌≤◌, ℤ, pos, ◌+ℤ◌, ◌≤ℤ◌, Bool, true, false, cond, not, ◌&&◌, Option, Some, None, List, [], ◌∷◌, map, length, Contains, refl, ap, ap₂, sym, ◌∙◌, subst, arith, ⊎_elim}
use Rattle.std.specs.Prelude.{eqb, filter}
use Rattle.std.proofs.lemmas.Bool.Decides.{nat_tests}
use Rattle.std.proofs.lemmas.Int.{ints}
use Rattle.mesh_definitions.specs.Faces.{NumbersFaces, boundary, steps_of}
use Rattle.mesh_definitions.specs.Field.{Field}
use Rattle.mesh_definitions.specs.Mesh.{surveyed, tris}
use Rattle.mesh_definitions.specs.Pieces.{Mesh, ahead, back, left_of, mesh_of, same_piece}
use Rattle.mesh_definitions.specs.declared.Class.TheVariants.{Unsurveyed, Band}
use Rattle.mesh_definitions.specs.declared.Piece.{Piece}
use Rattle.mesh_definitions.specs.declared.Rect.{Rect}
use Rattle.mesh_definitions.specs.declared.Step.{Step}
use Rattle.mesh_definitions.specs.declared.Tri.{Tri}
use Rattle.mesh_laws.proofs.FaceKinds.{faces_have_kinds}
use Rattle.mesh_laws.proofs.Listed.{bands_of, halves, piece, piece_there, tri_in, tri_there}
use Rattle.mesh_laws.proofs.Once.{pieces_once}
use Rattle.mesh_laws.proofs.Shares.{gain_of}
use Rattle.mesh_laws.proofs.Triangles.{self_num, tri_self}
use Rattle.plane_laws.specs.Borders.{total, within}
use Rattle.plane_laws.proofs.Members.{In, contains, is_in}
use Rattle.plane_laws.proofs.Sums.{total_swap, total-add, total-append, total-filter, total-map}
use Rattle.record_size_laws.proofs.SmallRectangles.Bounds.{total_at_most, total_from_zero, total_has, total_length, places_at_most}
use Rattle.record_size_laws.proofs.SmallRectangles.Triangle.{one, beside_piece}

-- a sum over the triangles of a rectangle of at most 16 by 16 cells, at most 23 for each
pub tris_at_most : (r : Rect) (g : Tri → ℤ) → r.rows ≤ 16 → r.cols ≤ 16 → ((t : Tri) → In (tris r) t → g t ≤ℤ pos 23) → total g (tris r) ≤ℤ pos 11776
tris_at_most r g low narrow h =
    let all = total_at_most g (λ t. pos 23) (tris r) h in
    let k = places_at_most (λ (t : Tri). pos 23) halves 46 736 r.row r.rows r.col r.cols (λ i j. omega (arith, ints)) (omega (arith, narrow)) in
    omega (arith, ints, all, k, low)

-- a value of steps sums up over all steps as over the sub-segments, walked both ways
pub over_steps : (m : Mesh) (g : Step → ℤ) → total g (steps_of m) ≡ total (λ s. g (ahead s) +ℤ g (back (ahead s))) m.subs
over_steps m g =
    total-append g (map ahead m.subs) (map back (map ahead m.subs))
    ∙ (ap₂ ◌+ℤ◌ (total-map g ahead m.subs) (total-map g back (map ahead m.subs) ∙ total-map (λ s. g (back s)) ahead m.subs)
    ∙ sym (total-add (λ s. g (ahead s)) (λ s. g (back (ahead s))) m.subs))

-- a test of steps passes as many as it counts
pub count_passed : (test : Step → Bool) (xs : List Step) → pos (length (filter test xs)) ≡ total (λ s. cond (test s) (pos 1) (pos 0)) xs
count_passed test xs = total_length (filter test xs) ∙ total-filter (λ s. pos 1) test xs

module _ (f : Field) (few : length f.levels ≤ 20) (r : Rect) (low : r.rows ≤ 16) (narrow : r.cols ≤ 16) (block : ℕ → ℕ → ℕ) where
  abbrev m : Mesh
  m = mesh_of f r block

  -- where all pieces of a set have one band
  module _ (F : Piece → Bool) (b : ℕ) (alike : (q : Piece) → Contains m.pieces q → F q ≡ true → q.band ≡ b) where
    abbrev gain : Step → Tri → ℤ
    gain s t = gain_of f r block one (same_piece (piece t b)) s

    from_zero : (s : Step) (t : Tri) → pos 0 ≤ℤ gain s t
    from_zero s t = by (within (same_piece (piece t b)) (m.right_of s))
      where
        by : (c : Bool) → pos 0 ≤ℤ cond c (pos 1) (pos 0)
        by true = omega (arith, ints)
        by false = omega (arith, ints)

    found : (s : Step) (q : Piece) → In (steps_of m) s → m.right_of s ≡ Some q → F q ≡ true → pos 1 ≤ℤ total (gain s) (tris r)
    found s q i e h =
        let there = (pieces_once f r block).sides s q (contains (steps_of m) s i) e in
        let cell = (piece_there f r q (is_in m.pieces q there)).0 in
        let same : same_piece (piece q.tri b) q ≡ true = subst (λ n. same_piece (piece q.tri n) q ≡ true) (alike q there h) (ap₂ (λ x y. x && y) (tri_self q.tri) (self_num q.band)) in
        let is : gain s q.tri ≡ pos 1 = ap (λ o. cond (within (same_piece (piece q.tri b)) o) (pos 1) (pos 0)) e ∙ ap (λ c. cond c (pos 1) (pos 0)) same in
        subst (λ z. z ≤ℤ total (gain s) (tris r)) is (total_has (gain s) (tris r) q.tri (from_zero s) (tri_in r q.tri cell))

    nothing : (s : Step) → pos 0 ≤ℤ total (gain s) (tris r)
    nothing s = total_from_zero (gain s) (tris r) (from_zero s)

    -- a step of the boundary has a piece of the set on the right
    each : (s : Step) → In (steps_of m) s → cond (within F (m.right_of s) && not (within F (left_of m s))) (pos 1) (pos 0) ≤ℤ total (gain s) (tris r)
    each s i = by (m.right_of s) (within F (left_of m s)) refl
      where
        with : (q : Piece) (c l : Bool) → m.right_of s ≡ Some q → F q ≡ c → cond (c && not l) (pos 1) (pos 0) ≤ℤ total (gain s) (tris r)
        with q true false e h = found s q i e h
        with q true true e h = nothing s
        with q false l e h = nothing s

        by : (o : Option Piece) (l : Bool) → m.right_of s ≡ o → cond (within F o && not l) (pos 1) (pos 0) ≤ℤ total (gain s) (tris r)
        by None l e = nothing s
        by (Some q) l e = with q (F q) l e refl

    of_tri : (t : Tri) → In (tris r) t → total (λ s. gain s t) (steps_of m) ≤ℤ pos 23
    of_tri t i = subst (λ z. z ≤ℤ pos 23) (sym (over_steps m (λ s. gain s t))) (beside_piece f few t b r block (tri_there r t i))

    -- the boundary has at most 23 steps for each triangle
    pub one_band : length (boundary m F) ≤ 11776
    one_band =
        let count = count_passed (λ s. within F (m.right_of s) && not (within F (left_of m s))) (steps_of m) in
        let all = total_at_most (λ s. cond (within F (m.right_of s) && not (within F (left_of m s))) (pos 1) (pos 0)) (λ s. total (gain s) (tris r)) (steps_of m) each in
        let swap = total_swap gain (steps_of m) (tris r) in
        let end = tris_at_most r (λ t. total (λ s. gain s t) (steps_of m)) low narrow of_tri in
        omega (arith, ints, count, all, swap, end)

  -- pieces of one class have one band
  band_told : (p q : Piece) → In (bands_of f p.tri) p.band → In (bands_of f q.tri) q.band → m.class q ≡ m.class p → q.band ≡ p.band
  band_told p q i j e = by (surveyed f p.tri) (surveyed f q.tri) refl refl e
    where
      zero_band : (t : Tri) (b : ℕ) → surveyed f t ≡ false → In (bands_of f t) b → b ≡ 0
      zero_band t b s k = ⊎_elim (λ g. sym g) (λ n. absurd n) (subst (λ bands. In bands b) (let g : bands_of f t ≡ 0 ∷ [] = rw s refl in g) k)

      by : (x y : Bool) → surveyed f p.tri ≡ x → surveyed f q.tri ≡ y → cond y (Band q.band) Unsurveyed ≡ cond x (Band p.band) Unsurveyed → q.band ≡ p.band
      by true true u v g = cc (g)
      by true false u v g = absurd (cc (g))
      by false true u v g = absurd (cc (g))
      by false false u v g = zero_band q.tri q.band v j ∙ sym (zero_band p.tri p.band u i)

  -- a face has the pieces of one band
  pub face_short : (face : Piece → ℕ) → NumbersFaces m face → (p : Piece) → Contains m.pieces p → length (boundary m (λ q. eqb (face q) (face p))) ≤ 11776
  face_short face numbers p there = one_band (λ q. eqb (face q) (face p)) p.band
      (λ q here e.
      let same : face q ≡ face p = grind (arith, nat_tests) in
      let alike = faces_have_kinds m face numbers q p here there same in
      band_told p q (piece_there f r p (is_in m.pieces p there)).1 (piece_there f r q (is_in m.pieces q here)).1 (ap (λ k. k.0) alike))
