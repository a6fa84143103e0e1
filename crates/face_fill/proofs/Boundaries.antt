-- What a rectangle's faces ask for: the lengths of their boundaries are counted over the sub-segments.
use Rattle.std.proofs.Common.{◌≡◌, ℕ, ◌+◌, ◌-◌, ◌≤◌, ⊎_elim, Bool, true, false, cond, ◌&&◌, Some, None, List, [], ◌∷◌, ◌++◌, length, map, eqb, refl, sym, ap, ap₂, ◌∙◌, subst, arith}
use Rattle.std.specs.Prelude.{Option, not, is_some, flat_map, filter, sum_by, count_by, Contains, ◌↔◌}
use Rattle.std.proofs.lemmas.Bool.{eqb-true, eq-eqb, cases_Bool}
use Rattle.std.proofs.lemmas.List.Sums.{sum_by-append, sum_by-cons, length-filter}
use Rattle.std.proofs.lemmas.List.Elements.{Contains-append_cases}
use Rattle.mesh_definitions.specs.Faces.{boundary, NumbersFaces}
use Rattle.mesh_definitions.specs.Field.{Field}
use Rattle.mesh_definitions.specs.Mesh.{has_cell, links, tris, right_tri, surveyed}
use Rattle.mesh_definitions.specs.Pieces.{Mesh, mesh_of, ahead, back, left_of, part_bands, chord_levels, piece_at, least_band, greatest_band, span}
use Rattle.mesh_definitions.specs.declared.Piece.{Piece}
use Rattle.mesh_definitions.specs.declared.Rect.{Rect}
use Rattle.mesh_definitions.specs.declared.Step.{Step}
use Rattle.mesh_definitions.specs.declared.Sub.TheVariants.{Part, Chord}
use Rattle.mesh_definitions.specs.declared.Sub.{Sub}
use Rattle.mesh_definitions.specs.declared.Tri.{Tri}
use Rattle.plane_laws.specs.Borders.{within}
use Rattle.face_fill.specs.Beside.{of_option_map, has_part}
use Rattle.face_fill.specs.Ends.{of_span}
use Rattle.face_fill.specs.Legs.{leg_of_right}
use Rattle.face_fill.specs.Listed.{InMesh, in_list, of_parts, of_chords, of_tris}
use Rattle.face_fill.specs.Listing.{of_map, of_flat_map, in_first, in_rest, in_nothing}
use Rattle.face_fill.specs.Items.{piece_by}
use Rattle.face_fill.specs.Tallies.{differs, one_sided, is_of}
use Rattle.face_fill.proofs.Adding.{band_piece}

-- ---- the boundary, counted over the sub-segments

module _ (m : Mesh) (F : Piece → Bool) where
  test : Step → Bool
  test x = within F (m.right_of x) && not (within F (m.right_of (back x)))

  one_way : (a b : Bool) → cond (a && not b) 1 0 + cond (b && not a) 1 0 ≡ cond (differs a b) 1 0
  one_way true true = refl
  one_way true false = refl
  one_way false true = refl
  one_way false false = refl

  abbrev at : Step → ℕ
  at x = cond (within F (m.right_of x) && not (within F (m.right_of (back x)))) 1 0

  both_ways : (subs : List Sub) → sum_by at (map ahead subs) + sum_by at (map back (map ahead subs)) ≡ one_sided m (within F) subs
  both_ways [] = refl
  both_ways (s ∷ subs) =
      let side : Sub → ℕ = λ s. cond (differs (within F (m.right_of (ahead s))) (within F (left_of m (ahead s)))) 1 0 in
      let i = both_ways subs in
      let a : sum_by at (ahead s ∷ map ahead subs) ≡ at (ahead s) + sum_by at (map ahead subs) = sum_by-cons at (ahead s) (map ahead subs) in
      let b : sum_by at (back (ahead s) ∷ map back (map ahead subs)) ≡ at (back (ahead s)) + sum_by at (map back (map ahead subs)) = sum_by-cons at (back (ahead s)) (map back (map ahead subs)) in
      let c : sum_by side (s ∷ subs) ≡ side s + sum_by side subs = sum_by-cons side s subs in
      let e : at (ahead s) + at (back (ahead s)) ≡ side s = one_way (within F (m.right_of (ahead s))) (within F (left_of m (ahead s))) in
      omega (arith, i, a, b, c, e)

  pub boundary_count : length (boundary m F) ≡ one_sided m (within F) m.subs
  boundary_count =
      let steps : List Step = map ahead m.subs ++ map back (map ahead m.subs) in
      let p : Step → Bool = λ x. within F (m.right_of x) && not (within F (m.right_of (back x))) in
      let l : length (filter p steps) ≡ count_by p steps = length-filter p steps in
      let s : sum_by at steps ≡ sum_by at (map ahead m.subs) + sum_by at (map back (map ahead m.subs)) = sum_by-append at (map ahead m.subs) (map back (map ahead m.subs)) in
      l ∙ (s ∙ both_ways m.subs)

one_sided_same : (m : Mesh) (P Q : Option Piece → Bool) (subs : List Sub) → ((s : Sub) → Contains subs s → (P (m.right_of (ahead s)) ≡ Q (m.right_of (ahead s))) × (P (left_of m (ahead s)) ≡ Q (left_of m (ahead s)))) → one_sided m P subs ≡ one_sided m Q subs
one_sided_same m P Q [] h = refl
one_sided_same m P Q (s ∷ subs) h =
    let f : (Option Piece → Bool) → Sub → ℕ = λ P s. cond (differs (P (m.right_of (ahead s))) (P (left_of m (ahead s)))) 1 0 in
    let i = one_sided_same m P Q subs (λ t c. h t (in_rest s t subs c)) in
    let k = h s (in_first s subs) in
    let a : sum_by (f P) (s ∷ subs) ≡ f P s + sum_by (f P) subs = sum_by-cons (f P) s subs in
    let b : sum_by (f Q) (s ∷ subs) ≡ f Q s + sum_by (f Q) subs = sum_by-cons (f Q) s subs in
    let e : f P s ≡ f Q s = ap₂ (λ x y. let n : ℕ = cond (differs x y) 1 0 in n) k.0 k.1 in
    omega (arith, i, a, b, e)

always_some : (o : Option Piece) → within (λ p. true) o ≡ is_some o
always_some None = refl
always_some (Some q) = refl

pub outline_count : (m : Mesh) → length (boundary m (λ p. true)) ≡ one_sided m is_some m.subs
outline_count m = boundary_count m (λ p. true) ∙ one_sided_same m (within (λ p. true)) is_some m.subs (λ s c. (always_some (m.right_of (ahead s)), always_some (left_of m (ahead s))))

-- ---- the sides of sub-segments are pieces

chord_between : (f : Field) (t : Tri) (k : ℕ) → Contains (chord_levels f t) k → (surveyed f t ≡ true) × (least_band f t + 1 ≤ k) × (k ≤ greatest_band f t)
chord_between f t k c = by (surveyed f t) refl c
  where
    by : (b : Bool) → surveyed f t ≡ b → Contains (cond b (span (least_band f t + 1) (greatest_band f t)) []) k → (surveyed f t ≡ true) × (least_band f t + 1 ≤ k) × (k ≤ greatest_band f t)
    by true e d = let r = of_span (least_band f t + 1) (greatest_band f t) k d in (e, r.0, r.1)
    by false e d = absurd (in_nothing k d)

module _ (f : Field) (r : Rect) (block : ℕ → ℕ → ℕ) where
  chord_cell : (t : Tri) (k : ℕ) → Contains (mesh_of f r block).subs (Chord t k) → has_cell r t.row t.col ≡ true
  chord_cell t k c = ⊎_elim
      (λ d. let x = of_flat_map (λ l. map (Part l) (part_bands f l)) (links r) (Chord t k) d in
      let y = of_map (Part x.0) (part_bands f x.0) (Chord t k) x.2 in
      cc (y.2))
      (λ d. let x = of_flat_map (λ t. map (Chord t) (chord_levels f t)) (tris r) (Chord t k) d in
      let y = of_map (Chord x.0) (chord_levels f x.0) (Chord t k) x.2 in
      let e : x.0 ≡ t = cc (y.2) in
      of_tris r t (subst (Contains (tris r)) e x.1))
      (Contains-append_cases (flat_map (λ l. map (Part l) (part_bands f l)) (links r)) (flat_map (λ t. map (Chord t) (chord_levels f t)) (tris r)) (Chord t k) c)

  pub side_in : (s : Sub) (forward : Bool) (q : Piece) → Contains (mesh_of f r block).subs s → (mesh_of f r block).right_of (record { sub = s; forward = forward }) ≡ Some q → InMesh f r q
  side_in (Part l b) forward q c e =
      let x = of_option_map (piece_at f b) (right_tri r (record { link = l; forward = forward })) q e in
      subst (InMesh f r) x.2 (has_part f r x.0 (record { link = l; forward = forward }) b (leg_of_right r (record { link = l; forward = forward }) x.0 x.1) (of_parts f r block l b c))
  side_in (Chord t k) forward q c e =
      let s = chord_between f t k (of_chords f r block t k c) in
      let cell = chord_cell t k c in
      let b : (least_band f t ≤ cond forward k (k - 1)) × (cond forward k (k - 1) ≤ greatest_band f t) = ends forward s.1 s.2 in
      let p : piece_by t (cond forward k (k - 1)) ≡ q = cc (e) in
      let at : piece_at f (cond forward k (k - 1)) t ≡ q = ap (λ x. piece_by t (cond x (cond forward k (k - 1)) 0)) s.0 ∙ p in
      subst (InMesh f r) at (band_piece f r t (cond forward k (k - 1)) cell s.0 b.0 b.1)
    where
      ends : (forward : Bool) → least_band f t + 1 ≤ k → k ≤ greatest_band f t → (least_band f t ≤ cond forward k (k - 1)) × (cond forward k (k - 1) ≤ greatest_band f t)
      ends true l h = (omega (arith, l), h)
      ends false l h = (omega (arith, l), omega (arith, h))

  -- two tests that agree on pieces agree on sides
  pub sides_agree : (F G : Piece → Bool) → ((q : Piece) → Contains (mesh_of f r block).pieces q → F q ≡ G q) → one_sided (mesh_of f r block) (within F) (mesh_of f r block).subs ≡ one_sided (mesh_of f r block) (within G) (mesh_of f r block).subs
  sides_agree F G h = one_sided_same (mesh_of f r block) (within F) (within G) (mesh_of f r block).subs
      (λ s c. (by s true c ((mesh_of f r block).right_of (ahead s)) refl, by s false c (left_of (mesh_of f r block) (ahead s)) refl))
    where
      by : (s : Sub) (forward : Bool) → Contains (mesh_of f r block).subs s → (o : Option Piece) → (mesh_of f r block).right_of (record { sub = s; forward = forward }) ≡ o → within F o ≡ within G o
      by s forward c None e = refl
      by s forward c (Some q) e = h q (in_list f r block q (side_in s forward q c e))

  same_test : (a b c d : ℕ) → ((a ≡ b) ↔ (c ≡ d)) → eqb a b ≡ eqb c d
  same_test a b c d h = ⊎_elim
      (λ e. e ∙ sym (eq-eqb c d (h.0 (eqb-true a b e))))
      (λ e. ⊎_elim (λ g. eq-eqb a b (h.1 (eqb-true c d g)) ∙ sym g) (λ g. e ∙ sym g) (cases_Bool (eqb c d)))
      (cases_Bool (eqb a b))

  -- the boundary of a face by any numbering, counted by ours
  pub face_count : (face number : Piece → ℕ) → NumbersFaces (mesh_of f r block) face → NumbersFaces (mesh_of f r block) number → (p : Piece) → Contains (mesh_of f r block).pieces p
      → length (boundary (mesh_of f r block) (λ q. eqb (face q) (face p))) ≡ one_sided (mesh_of f r block) (is_of number (number p)) (mesh_of f r block).subs
  face_count face number h n p c =
      boundary_count (mesh_of f r block) (λ q. eqb (face q) (face p))
      ∙ sides_agree (λ q. eqb (face q) (face p)) (λ q. eqb (number q) (number p))
      (λ q d. same_test (face q) (face p) (number q) (number p) ((λ e. (n q p d c).1 ((h q p d c).0 e)), (λ e. (h q p d c).1 ((n q p d c).0 e))))
