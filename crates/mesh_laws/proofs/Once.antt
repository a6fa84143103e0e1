-- Each piece stands once, and each side of a step is one.
use Rattle.std.proofs.Common.{◌≡◌, ◌≢◌, ℕ, zero, suc, ◌+◌, ◌-◌, ◌≤◌, min, max, Bool, true, false, cond, Option, Some, None, List, [], ◌∷◌, ◌++◌, map, fold, length, All, AllPairs, refl, ap, sym, ◌∙◌, subst, arith, inl, inr, ⊎_elim}
use Rattle.std.specs.Prelude.{flat_map, option_map, is_some}
use Rattle.std.specs.List.{range_with_len, list_all}
use Rattle.std.proofs.lemmas.List.Elements.{All-nil, All-cons}
use Rattle.std.proofs.lemmas.List.Kept.{AllPairs-cons}
use Rattle.std.proofs.lemmas.Bool.{and_parts}
use Rattle.mesh_definitions.proofs.Bands.{band_known}
use Rattle.mesh_definitions.specs.Faces.{borders}
use Rattle.mesh_definitions.specs.Field.{Field, band_at}
use Rattle.mesh_definitions.specs.Mesh.{first, second, corners, right_tri, links, tris, surveyed, has_cell}
use Rattle.mesh_definitions.specs.Pieces.{mesh_of, ahead, back, piece_at, pieces_of, part_bands, chord_levels, span, least_band, greatest_band}
use Rattle.mesh_definitions.specs.declared.Link.{Link}
use Rattle.mesh_definitions.specs.declared.Piece.{Piece}
use Rattle.mesh_definitions.specs.declared.Rect.{Rect}
use Rattle.mesh_definitions.specs.declared.Step.{Step}
use Rattle.mesh_definitions.specs.declared.Sub.TheVariants.{Part, Chord}
use Rattle.mesh_definitions.specs.declared.Sub.{Sub}
use Rattle.mesh_definitions.specs.declared.Tri.{Tri}
use Rattle.mesh_definitions.specs.declared.Way.TheVariants.{Across, Down, Slant}
use Rattle.mesh_definitions.specs.declared.Way.{Way}
use Rattle.depth_grid.specs.declared.node.NodeId.{NodeId}
use Rattle.mesh_laws.specs.PieceLaws.{PiecesOnce}
use Rattle.mesh_laws.proofs.Listed.{bands_of, halves, from_halves, piece, piece_in, tri_there}
use Rattle.mesh_laws.proofs.Places.{in_range, in_range_low, in_range_high}
use Rattle.mesh_laws.proofs.Triangles.{tri, walk, is_cell, IsCell}
use Rattle.plane_laws.proofs.Lists.{from_append, from_map, from_flat_map}
use Rattle.plane_laws.specs.Borders.{steps}
use Rattle.plane_laws.proofs.Members.{In, contains, is_in, Distinct}

-- ---- lists without repetition

pub distinct_append : {X : Type 0} (xs ys : List X) → Distinct xs → Distinct ys → ((z : X) → In xs z → ¬ (In ys z)) → Distinct (xs ++ ys)
distinct_append [] ys d e h = e
distinct_append (x ∷ xs) ys d e h = (
  λ i. ⊎_elim (λ j. d.0 j) (λ j. h x (inl refl) j) (from_append xs ys x i),
  distinct_append xs ys d.1 e (λ z i. h z (inr i)),
)

-- lists of things that each tell their list's own place among others
pub distinct_flat_map : {X Y : Type 0} (g : X → List Y) (key : Y → X) (xs : List X) → ((x : X) (y : Y) → In (g x) y → key y ≡ x) → ((x : X) → Distinct (g x)) → Distinct xs → Distinct (flat_map g xs)
distinct_flat_map g key [] tells each d = tt
distinct_flat_map g key (x ∷ xs) tells each d = distinct_append (g x) (flat_map g xs) (each x) (distinct_flat_map g key xs tells each d.1)
    (λ y i j. let k = from_flat_map g xs y j in let e : k.0 ≡ x = sym (tells k.0 y k.2) ∙ tells x y i in d.0 (subst (In xs) e k.1))

pub distinct_map : {X Y : Type 0} (g : X → Y) (key : Y → X) → ((x : X) → key (g x) ≡ x) → (xs : List X) → Distinct xs → Distinct (map g xs)
distinct_map g key tells [] d = tt
distinct_map g key tells (x ∷ xs) d = (
  λ i. let k = from_map g xs (g x) i in let e : k.0 ≡ x = sym (tells k.0) ∙ (ap key k.2 ∙ tells x) in d.0 (subst (In xs) e k.1),
  distinct_map g key tells xs d.1,
)

pub distinct_range : (a n : ℕ) → Distinct (range_with_len a n)
distinct_range a zero = tt
distinct_range a (suc n) = (λ i. let l = in_range_low (a + 1) n a i in absurd (omega (arith, l)), distinct_range (a + 1) n)

all_others : {X : Type 0} (x : X) (xs : List X) → ¬ (In xs x) → All (λ y. x ≢ y) xs
all_others x [] n = All-nil (λ y. x ≢ y)
all_others x (y ∷ xs) n = All-cons (λ y. x ≢ y) y xs (λ e. n (inl (sym e))) (all_others x xs (λ i. n (inr i)))

all_pairs : {X : Type 0} (xs : List X) → Distinct xs → AllPairs ◌≢◌ xs
all_pairs [] d = λ i j e l m. absurd (omega (arith, m))
all_pairs (x ∷ xs) d = AllPairs-cons ◌≢◌ x xs (all_others x xs d.0) (all_pairs xs d.1)

-- ---- each piece once

pub distinct_tris : (r : Rect) → Distinct (tris r)
distinct_tris r =
    let cols = range_with_len r.col r.cols in
    let line = λ (i : ℕ). flat_map (halves i) cols in
    distinct_flat_map line (λ t. t.row) (range_with_len r.row r.rows)
    (λ i t k. let l = from_flat_map (halves i) cols t k in (from_halves i l.0 t l.2).0)
    (λ i. distinct_flat_map (halves i) (λ t. t.col) cols (λ j t k. (from_halves i j t k).1) (λ j. two i j) (distinct_range r.col r.cols))
    (distinct_range r.row r.rows)
  where
    two : (i j : ℕ) → Distinct (halves i j)
    two i j = (λ k. ⊎_elim (λ e. absurd (let g : false ≡ true = ap (λ t. t.upper) e in cc (g))) (λ n. n) k, (λ n. n, tt))

distinct_bands : (f : Field) (t : Tri) → Distinct (bands_of f t)
distinct_bands f t = by (surveyed f t)
  where
    by : (s : Bool) → Distinct (cond s (span (least_band f t) (greatest_band f t)) (0 ∷ []))
    by true = distinct_range (least_band f t) (greatest_band f t + 1 - least_band f t)
    by false = (λ n. n, tt)

distinct_pieces : (f : Field) (r : Rect) → Distinct (flat_map (pieces_of f) (tris r))
distinct_pieces f r = distinct_flat_map (pieces_of f) (λ q. q.tri) (tris r)
    (λ t q i. let k = from_map (piece t) (bands_of f t) q i in sym (ap (λ x. x.tri) k.2))
    (λ t. distinct_map (piece t) (λ q. q.band) (λ b. refl) (bands_of f t) (distinct_bands f t))
    (distinct_tris r)

-- ---- the sides of a step are pieces

pub all_pass : {X : Type 0} (test : X → Bool) (xs : List X) (x : X) → list_all test xs ≡ true → In xs x → test x ≡ true
all_pass test [] x e i = absurd i
all_pass test (y ∷ xs) x e i = let p = and_parts (test y) (list_all test xs) e in ⊎_elim (λ s. subst (λ z. test z ≡ true) s p.0) (λ j. all_pass test xs x p.1 j) i

least_of : {X : Type 0} (g : X → ℕ) (a : ℕ) (xs : List X) → fold (λ b n. min b (g n)) a xs ≤ a
least_of g a [] = omega arith
least_of g a (x ∷ xs) = omega (arith, least_of g (min a (g x)) xs)

least_low : {X : Type 0} (g : X → ℕ) (a : ℕ) (xs : List X) (x : X) → In xs x → fold (λ b n. min b (g n)) a xs ≤ g x
least_low g a [] x i = absurd i
least_low g a (y ∷ xs) x i = ⊎_elim (λ e. subst (λ z. fold (λ b n. min b (g n)) (min a (g y)) xs ≤ g z) e (omega (arith, least_of g (min a (g y)) xs))) (λ j. least_low g (min a (g y)) xs x j) i

greatest_of : {X : Type 0} (g : X → ℕ) (a : ℕ) (xs : List X) → a ≤ fold (λ b n. max b (g n)) a xs
greatest_of g a [] = omega arith
greatest_of g a (x ∷ xs) = omega (arith, greatest_of g (max a (g x)) xs)

greatest_high : {X : Type 0} (g : X → ℕ) (a : ℕ) (xs : List X) (x : X) → In xs x → g x ≤ fold (λ b n. max b (g n)) a xs
greatest_high g a [] x i = absurd i
greatest_high g a (y ∷ xs) x i = ⊎_elim (λ e. subst (λ z. g z ≤ fold (λ b n. max b (g n)) (max a (g y)) xs) e (omega (arith, greatest_of g (max a (g y)) xs))) (λ j. greatest_high g (max a (g y)) xs x j) i

-- a triangle of a rectangle with two nodes among its corners
pub record Between (r : Rect) (t : Tri) (a c : NodeId) : Type 0 where
  pub cell : IsCell r t.row t.col
  pub first : In (corners t) a
  pub second : In (corners t) c

of_cell : (r : Rect) (i j : ℕ) (u : Bool) (t : Tri) (a c : NodeId) → cond (has_cell r i j) (Some (tri i j u)) None ≡ Some t → In (corners (tri i j u)) a → In (corners (tri i j u)) c → Between r t a c
of_cell r i j u t a c e p q = by (has_cell r i j) refl e
  where
    by : (b : Bool) → has_cell r i j ≡ b → cond b (Some (tri i j u)) None ≡ Some t → Between r t a c
    by true g k = let s : tri i j u ≡ t = cc (k) in subst (λ v. Between r v a c) s (record { cell = is_cell r i j g; first = p; second = q })
    by false g k = absurd (cc (k))

abbrev node : ℕ → ℕ → NodeId
node i j = record { row = i; col = j }

-- the triangle on the right of a walked link has and_parts of its nodes
pub right_is : (r : Rect) (way : Way) (i j : ℕ) (forward : Bool) (t : Tri) → right_tri r (walk way i j forward) ≡ Some t → Between r t (first (record { way = way; row = i; col = j })) (second (record { way = way; row = i; col = j }))
right_is r Across i j true t e = of_cell r i j true t (node i j) (node i (j + 1)) e (inl refl) (inr (inl refl))
right_is r Across zero j false t e = absurd (cc (e))
right_is r Across (suc i) j false t e = of_cell r i j false t (node (suc i) j) (node (suc i) (j + 1)) e (inl (ap (λ n. node n j) (omega arith))) (inr (inr (inl (ap (λ n. node n (j + 1)) (omega arith)))))
right_is r Down i zero true t e = absurd (cc (e))
right_is r Down i (suc j) true t e = of_cell r i j false t (node i (suc j)) (node (i + 1) (suc j)) e (inr (inl (ap (λ n. node i n) (omega arith)))) (inr (inr (inl (ap (λ n. node (i + 1) n) (omega arith)))))
right_is r Down i j false t e = of_cell r i j true t (node i j) (node (i + 1) j) e (inl refl) (inr (inr (inl refl)))
right_is r Slant i j true t e = of_cell r i j false t (node (i + 1) j) (node i (j + 1)) e (inl refl) (inr (inl refl))
right_is r Slant i j false t e = of_cell r i j true t (node (i + 1) j) (node i (j + 1)) e (inr (inr (inl refl))) (inr (inl refl))

pub mapped : {X Y : Type 0} (g : X → Y) (o : Option X) (y : Y) → option_map g o ≡ Some y → (x : X) × (o ≡ Some x) × (g x ≡ y)
mapped g None y e = absurd (cc (e))
mapped g (Some x) y e = (x, refl, cc (e))

module _ (f : Field) (r : Rect) where
  -- the band of a part of a triangle's leg is that of one of its pieces
  part_band : (t : Tri) (l : Link) (b : ℕ) → Between r t (first l) (second l) → In (part_bands f l) b → In (bands_of f t) (cond (surveyed f t) b 0)
  part_band t l b k i = by (surveyed f t) refl
    where
      within : surveyed f t ≡ true → In (span (least_band f t) (greatest_band f t)) b
      within e =
          let x = band_at f (first l) in
          let y = band_at f (second l) in
          let a = band_known f (first l) (all_pass (λ n. is_some (f.depth n)) (corners t) (first l) e k.first) in
          let c = band_known f (second l) (all_pass (λ n. is_some (f.depth n)) (corners t) (second l) e k.second) in
          let j : In (span (min x y) (max x y)) b = subst (λ bands. In bands b) (let g : part_bands f l ≡ span (min x y) (max x y) = rw (a, c) refl in g) i in
          let low = in_range_low (min x y) (max x y + 1 - min x y) b j in
          let high = in_range_high (min x y) (max x y + 1 - min x y) b j in
          let p = least_low (band_at f) (length f.levels) (corners t) (first l) k.first in
          let q = least_low (band_at f) (length f.levels) (corners t) (second l) k.second in
          let u = greatest_high (band_at f) 0 (corners t) (first l) k.first in
          let v = greatest_high (band_at f) 0 (corners t) (second l) k.second in
          in_range (least_band f t) (greatest_band f t + 1 - least_band f t) b (omega (arith, low, p, q)) (omega (arith, low, high, p, q, u, v))

      by : (s : Bool) → surveyed f t ≡ s → In (cond s (span (least_band f t) (greatest_band f t)) (0 ∷ [])) (cond s b 0)
      by true e = within e
      by false e = inl refl

  -- on the sides of a chord lie the pieces of its level's band and of the one before it
  chord_band : (t : Tri) (k : ℕ) (forward : Bool) → In (chord_levels f t) k → In (bands_of f t) (cond forward k (k - 1))
  chord_band t k forward i = by (surveyed f t) i
    where
      step : (lo hi : ℕ) (forward : Bool) → In (span (lo + 1) hi) k → In (span lo hi) (cond forward k (k - 1))
      step lo hi true j = let low = in_range_low (lo + 1) (hi + 1 - (lo + 1)) k j in let high = in_range_high (lo + 1) (hi + 1 - (lo + 1)) k j in in_range lo (hi + 1 - lo) k (omega (arith, low)) (omega (arith, low, high))
      step lo hi false j = let low = in_range_low (lo + 1) (hi + 1 - (lo + 1)) k j in let high = in_range_high (lo + 1) (hi + 1 - (lo + 1)) k j in in_range lo (hi + 1 - lo) (k - 1) (omega (arith, low)) (omega (arith, low, high))

      by : (s : Bool) → In (cond s (span (least_band f t + 1) (greatest_band f t)) []) k → In (cond s (span (least_band f t) (greatest_band f t)) (0 ∷ [])) (cond forward k (k - 1))
      by true j = step (least_band f t) (greatest_band f t) forward j
      by false j = absurd j

  abbrev pub parts : List Sub
  parts = flat_map (λ l. map (Part l) (part_bands f l)) (links r)

  abbrev pub chords : List Sub
  chords = flat_map (λ t. map (Chord t) (chord_levels f t)) (tris r)

  pub part_there : (l : Link) (b : ℕ) → In (parts ++ chords) (Part l b) → In (part_bands f l) b
  part_there l b i = ⊎_elim
      (λ j. let x = from_flat_map (λ l. map (Part l) (part_bands f l)) (links r) (Part l b) j in
      let y = from_map (Part x.0) (part_bands f x.0) (Part l b) x.2 in
      let e : x.0 ≡ l = let g = y.2 in cc (g) in
      let k : y.0 ≡ b = let g = y.2 in cc (g) in
      subst (In (part_bands f l)) k (subst (λ z. In (part_bands f z) y.0) e y.1))
      (λ j. let x = from_flat_map (λ t. map (Chord t) (chord_levels f t)) (tris r) (Part l b) j in
      let y = from_map (Chord x.0) (chord_levels f x.0) (Part l b) x.2 in
      absurd (let g = y.2 in cc (g)))
      (from_append parts chords (Part l b) i)

  pub chord_there : (t : Tri) (k : ℕ) → In (parts ++ chords) (Chord t k) → IsCell r t.row t.col × In (chord_levels f t) k
  chord_there t k i = ⊎_elim
      (λ j. let x = from_flat_map (λ l. map (Part l) (part_bands f l)) (links r) (Chord t k) j in
      let y = from_map (Part x.0) (part_bands f x.0) (Chord t k) x.2 in
      absurd (let g = y.2 in cc (g)))
      (λ j. let x = from_flat_map (λ t. map (Chord t) (chord_levels f t)) (tris r) (Chord t k) j in
      let y = from_map (Chord x.0) (chord_levels f x.0) (Chord t k) x.2 in
      let e : x.0 ≡ t = let g = y.2 in cc (g) in
      let n : y.0 ≡ k = let g = y.2 in cc (g) in
      (subst (λ u. IsCell r u.row u.col) e (tri_there r x.0 x.1), subst (In (chord_levels f t)) n (subst (λ u. In (chord_levels f u) y.0) e y.1)))
      (from_append parts chords (Chord t k) i)

  side_is : (block : ℕ → ℕ → ℕ) (s : Sub) (forward : Bool) (q : Piece) → In (parts ++ chords) s → (mesh_of f r block).right_of (record { sub = s; forward = forward }) ≡ Some q → In (flat_map (pieces_of f) (tris r)) q
  side_is block (Part l b) forward q i e =
      let a = mapped (piece_at f b) (right_tri r (record { link = l; forward = forward })) q e in
      let k = right_is r l.way l.row l.col forward a.0 a.1 in
      subst (In (flat_map (pieces_of f) (tris r))) a.2 (piece_in f r a.0 (cond (surveyed f a.0) b 0) k.cell (part_band a.0 l b k (part_there l b i)))
  side_is block (Chord t k) forward q i e =
      let a = chord_there t k i in
      let g : piece t (cond forward k (k - 1)) ≡ q = cc (e) in
      subst (In (flat_map (pieces_of f) (tris r))) g (piece_in f r t (cond forward k (k - 1)) a.0 (chord_band t k forward a.1))

-- the sub-segment of a step is one of the mesh
pub step_sub : (subs : List Sub) (x : Step) → In (map ahead subs ++ map back (map ahead subs)) x → In subs x.sub
step_sub subs x i = ⊎_elim
    (λ j. let k = from_map ahead subs x j in subst (In subs) (ap (λ s. s.sub) k.2) k.1)
    (λ j. let k = from_map back (map ahead subs) x j in let l = from_map ahead subs k.0 k.1 in subst (In subs) (ap (λ s. s.sub) l.2 ∙ ap (λ s. s.sub) k.2) l.1)
    (from_append (map ahead subs) (map back (map ahead subs)) x i)

pub pieces_once : PiecesOnce
pieces_once f r block = record {
  once = all_pairs (mesh_of f r block).pieces (distinct_pieces f r);
  sides = λ x q there e. contains (mesh_of f r block).pieces q (side_is f r block x.sub x.forward q (step_sub (mesh_of f r block).subs x (is_in (steps (borders (mesh_of f r block))) x there)) e);
}
