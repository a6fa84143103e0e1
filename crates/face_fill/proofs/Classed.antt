-- No face has more sub-segments at its outline than the pieces of its class together.
use Rattle.std.proofs.Common.{◌≡◌, ℕ, ◌+◌, ◌<◌, ◌≤◌, ⊎_elim, Bool, true, false, cond, Some, None, List, [], ◌∷◌, ◌++◌, length, get_or, eqb, true≢false, refl, sym, ap, ap₂, ◌∙◌, arith}
use Rattle.std.specs.Prelude.{Option, not, sum_by, Contains}
use Rattle.std.proofs.lemmas.Bool.{eqb-true, eq-eqb, cases_Bool, cases_eq}
use Rattle.std.proofs.lemmas.List.{get_or_append_left, get_or_push, length_push}
use Rattle.std.proofs.lemmas.List.Sums.{sum_by-cons}
use Rattle.mesh_definitions.specs.Blocks.{alone, Asks, IsNeed}
use Rattle.mesh_definitions.specs.Blocks.Asks.{Outline, Face}
use Rattle.mesh_definitions.specs.Faces.{boundary, IsAdjacent, NumbersFaces}
use Rattle.mesh_definitions.specs.Faces.Joined.{Here, Over}
use Rattle.mesh_definitions.specs.Field.{Field}
use Rattle.mesh_definitions.specs.Pieces.{Mesh, ahead, left_of}
use Rattle.mesh_definitions.specs.declared.Class.TheVariants.{Unsurveyed, Band}
use Rattle.mesh_definitions.specs.declared.Class.{Class}
use Rattle.mesh_definitions.specs.declared.Piece.{Piece}
use Rattle.mesh_definitions.specs.declared.Rect.{Rect}
use Rattle.mesh_definitions.specs.declared.Sub.{Sub}
use Rattle.plane_laws.specs.Borders.{within}
use Rattle.face_fill.specs.Beside.{same_kind}
use Rattle.face_fill.specs.Classed.{number_of_class, class_by, AreClassed}
use Rattle.face_fill.specs.Listed.{in_list}
use Rattle.face_fill.specs.Listing.{in_first, in_rest}
use Rattle.face_fill.specs.Tallies.{differs, one_sided, IsTally}
use Rattle.face_fill.specs.declared.tables.PieceTable.{PieceTable}
use Rattle.face_fill.specs.declared.tables.Tally.{Tally}
use Rattle.face_fill.proofs.Boundaries.{boundary_count, outline_count, side_in, sides_agree}

-- two classes of one number are one
one_class : (a b : Class) → number_of_class a ≡ number_of_class b → a ≡ b
one_class Unsurveyed Unsurveyed e = refl
one_class Unsurveyed (Band b) e = absurd (omega (arith, e))
one_class (Band a) Unsurveyed e = absurd (omega (arith, e))
one_class (Band a) (Band b) e = let same : a ≡ b = omega (arith, e) in ap Band same

-- what one test parts, the other does, for each sub-segment: then it is as often or more
parted_more : (m : Mesh) (P Q : Option Piece → Bool) (subs : List Sub) → ((s : Sub) → Contains subs s → differs (P (m.right_of (ahead s))) (P (left_of m (ahead s))) ≡ true → differs (Q (m.right_of (ahead s))) (Q (left_of m (ahead s))) ≡ true) → one_sided m P subs ≤ one_sided m Q subs
parted_more m P Q [] h = omega arith
parted_more m P Q (s ∷ subs) h =
    let f : (Option Piece → Bool) → Sub → ℕ = λ P s. cond (differs (P (m.right_of (ahead s))) (P (left_of m (ahead s)))) 1 0 in
    let i = parted_more m P Q subs (λ t c. h t (in_rest s t subs c)) in
    let a : sum_by (f P) (s ∷ subs) ≡ f P s + sum_by (f P) subs = sum_by-cons (f P) s subs in
    let b : sum_by (f Q) (s ∷ subs) ≡ f Q s + sum_by (f Q) subs = sum_by-cons (f Q) s subs in
    let e : f P s ≤ f Q s = by (differs (P (m.right_of (ahead s))) (P (left_of m (ahead s)))) (differs (Q (m.right_of (ahead s))) (Q (left_of m (ahead s)))) (h s (in_first s subs)) in
    omega (arith, i, a, b, e)
  where
    by : (x y : Bool) → (x ≡ true → y ≡ true) → (let a : ℕ = cond x 1 0 in let b : ℕ = cond y 1 0 in a ≤ b)
    by true true h = omega arith
    by true false h = absurd (true≢false (sym (h refl)))
    by false y h = omega arith

module _ (f : Field) (r : Rect) (face : Piece → ℕ) (h : NumbersFaces (alone f r) face) (p : Piece) (c : Contains (alone f r).pieces p) where
  abbrev m : Mesh
  m = alone f r

  -- the face of p, and the pieces of its class
  abbrev F : Piece → Bool
  F q = eqb (face q) (face p)

  abbrev G : Piece → Bool
  G q = eqb (number_of_class (m.class q)) (number_of_class (m.class p))

  class_there : (q : Piece) → Contains m.pieces q → F q ≡ true → m.class q ≡ m.class p
  class_there q d e = ap (λ (k : Class × ℕ). k.0) (same_kind m q p ((h q p d c).0 (eqb-true (face q) (face p) e)))

  in_class : (q : Piece) → Contains m.pieces q → F q ≡ true → G q ≡ true
  in_class q d e = eq-eqb (number_of_class (m.class q)) (number_of_class (m.class p)) (ap number_of_class (class_there q d e))

  -- two pieces on the sides of a sub-segment are adjacent where they are of one class
  near : (s : Sub) → Contains m.subs s → (forward : Bool) (a b : Piece) → m.right_of (record { sub = s; forward = forward }) ≡ Some a → m.right_of (record { sub = s; forward = not forward }) ≡ Some b → m.class a ≡ m.class b → IsAdjacent m b a
  near s there true a b ra rb same = record { across = record { sub = s; forward = false }; there = there; right = rb; left = ra; alike = ap (λ k. let x : Class × ℕ = (k, 0) in x) (sym same) }
  near s there false a b ra rb same = record { across = record { sub = s; forward = true }; there = there; right = rb; left = ra; alike = ap (λ k. let x : Class × ℕ = (k, 0) in x) (sym same) }

  -- where one of them is of the face and the other isn't, the other isn't of its class
  other_class : (s : Sub) → Contains m.subs s → (forward : Bool) (a b : Piece) → m.right_of (record { sub = s; forward = forward }) ≡ Some a → m.right_of (record { sub = s; forward = not forward }) ≡ Some b
      → Contains m.pieces a → Contains m.pieces b → F a ≡ true → F b ≡ false → G b ≡ false
  other_class s there forward a b ra rb da db ea eb = ⊎_elim
      (λ g.
      let same : m.class a ≡ m.class b = class_there a da ea ∙ sym (one_class (m.class b) (m.class p) (eqb-true (number_of_class (m.class b)) (number_of_class (m.class p)) g)) in
      let joined : face b ≡ face a = (h b a db da).1 (Over (near s there forward a b ra rb same) Here) in
      absurd (true≢false (sym (eq-eqb (face b) (face p) (joined ∙ eqb-true (face a) (face p) ea)) ∙ eb)))
      (λ g. g)
      (cases_Bool (G b))

  piece_there : (s : Sub) (forward : Bool) (q : Piece) → Contains m.subs s → m.right_of (record { sub = s; forward = forward }) ≡ Some q → Contains m.pieces q
  piece_there s forward q there e = in_list f r (λ i j. 0) q (side_in f r (λ i j. 0) s forward q there e)

  parts_too : (s : Sub) → Contains m.subs s → differs (within F (m.right_of (ahead s))) (within F (left_of m (ahead s))) ≡ true → differs (within G (m.right_of (ahead s))) (within G (left_of m (ahead s))) ≡ true
  parts_too s there e = by (m.right_of (ahead s)) (left_of m (ahead s)) refl refl e
    where
      alone_in : (x y : Bool) → (x ≡ true → y ≡ true) → differs x false ≡ true → differs y false ≡ true
      alone_in true y k e = rw (k refl) refl
      alone_in false y k e = absurd (true≢false (sym e))

      alone_out : (x y : Bool) → (x ≡ true → y ≡ true) → differs false x ≡ true → differs false y ≡ true
      alone_out x y k e = k e

      both : (xa xb ya yb : Bool) → (xa ≡ true → ya ≡ true) → (xb ≡ true → yb ≡ true) → (xa ≡ true → xb ≡ false → yb ≡ false) → (xb ≡ true → xa ≡ false → ya ≡ false) → differs xa xb ≡ true → differs ya yb ≡ true
      both true true ya yb ka kb la lb e = absurd (true≢false (sym e))
      both true false ya yb ka kb la lb e = rw (ka refl, la refl refl) refl
      both false true ya yb ka kb la lb e = rw (lb refl refl, kb refl) refl
      both false false ya yb ka kb la lb e = absurd (true≢false (sym e))

      by : (a b : Option Piece) → m.right_of (ahead s) ≡ a → left_of m (ahead s) ≡ b → differs (within F a) (within F b) ≡ true → differs (within G a) (within G b) ≡ true
      by None None ra rb e = absurd (true≢false (sym e))
      by (Some a) None ra rb e = alone_in (F a) (G a) (in_class a (piece_there s true a there ra)) e
      by None (Some b) ra rb e = alone_out (F b) (G b) (in_class b (piece_there s false b there rb)) e
      by (Some a) (Some b) ra rb e =
          let da = piece_there s true a there ra in
          let db = piece_there s false b there rb in
          both (F a) (F b) (G a) (G b) (in_class a da) (in_class b db)
          (other_class s there true a b ra rb da db)
          (other_class s there false b a rb ra db da)
          e

  pub face_within : length (boundary m F) ≤ one_sided m (within G) m.subs
  face_within =
      let n : length (boundary m F) ≡ one_sided m (within F) m.subs = boundary_count m F in
      let l = parted_more m (within F) (within G) m.subs parts_too in
      omega (arith, n, l)

-- pieces numbered by their classes, and all sub-segments counted
pub record AreClassCounts (f : Field) (r : Rect) (number : Piece → ℕ) (t : Tally) : Type 0 where
  pub classed : (p : Piece) → Contains (alone f r).pieces p → number p ≡ number_of_class ((alone f r).class p)
  pub below : (p : Piece) → Contains (alone f r).pieces p → number p < length t.counts.items
  pub tally : IsTally (alone f r) number (alone f r).subs t

-- where all counts are at most 12,000, so is the need
pub need_small : (f : Field) (r : Rect) (number : Piece → ℕ) (t : Tally) (n : ℕ) → AreClassCounts f r number t → t.outline ≤ 12000 → ((k : ℕ) → k < length t.counts.items → get_or t.counts.items k 0 ≤ 12000) → IsNeed f r n → n ≤ 12000
need_small f r number t n h o k need = by n need.asked
  where
    same_test : (p q : Piece) → Contains (alone f r).pieces p → Contains (alone f r).pieces q → eqb (number_of_class ((alone f r).class q)) (number_of_class ((alone f r).class p)) ≡ eqb (number q) (number p)
    same_test p q c d = ap₂ eqb (sym (h.classed q d)) (sym (h.classed p c))

    by : (n : ℕ) → Asks f r n → n ≤ 12000
    by n Outline = let e = outline_count (alone f r) in omega (arith, e, h.tally.outline, o)
    by n (Face face faces p c) =
        let l = face_within f r face faces p c in
        let e = sides_agree f r (λ i j. 0) (λ q. eqb (number_of_class ((alone f r).class q)) (number_of_class ((alone f r).class p))) (λ q. eqb (number q) (number p)) (λ q d. same_test p q c d) in
        let counted = h.tally.faces (number p) (h.below p c) in
        let small = k (number p) (h.below p c) in
        omega (arith, l, e, counted, small)

-- one more item
pub classed_more : (p : PieceTable) (n x : ℕ) (xs ys : List ℕ) → AreClassed p n xs → x ≡ number_of_class (class_by p n) → x < 22 → ys ≡ xs ++ x ∷ [] → AreClassed p (n + 1) ys
classed_more p n x xs ys h e l s = record {
  full = omega (arith, ap length s, length_push xs x, h.full);
  each = λ i b. ⊎_elim (λ q. ap (λ i. get_or ys i 0) q ∙ (new ∙ (e ∙ ap (λ i. number_of_class (class_by p i)) (sym q)))) (λ q. let b : i < n = omega (arith, b, q) in old i b ∙ h.each i b) (cases_eq i n);
  few = λ i b. ⊎_elim (λ q. omega (arith, ap (λ i. get_or ys i 0) q, new, l)) (λ q. let b : i < n = omega (arith, b, q) in omega (arith, old i b, h.few i b)) (cases_eq i n);
}
  where
    old : (i : ℕ) → i < n → get_or ys i 0 ≡ get_or xs i 0
    old i b = ap (λ ys. get_or ys i 0) s ∙ get_or_append_left xs (x ∷ []) 0 i (omega (arith, b, h.full))

    new : get_or ys n 0 ≡ x
    new = ap (λ ys. get_or ys n 0) s ∙ get_or_push xs x 0 n h.full
