-- From numbers of items to faces.
use Rattle.std.proofs.Common.{◌≡◌, ℕ, ◌+◌, ◌<◌, ⊎_elim, List, length, get_or, set, refl, sym, ap, ◌∙◌, arith}
use Rattle.std.proofs.lemmas.Bool.{cases_eq}
use Rattle.std.proofs.lemmas.List.{get_or-set_same, get_or-set_other, length-set}
use Rattle.mesh_definitions.specs.Faces.{kind, Joined, NumbersFaces, IsGapless}
use Rattle.mesh_definitions.specs.Faces.Joined.{Here, Over}
use Rattle.mesh_definitions.specs.Field.{Field}
use Rattle.mesh_definitions.specs.Pieces.{mesh_of}
use Rattle.mesh_definitions.specs.declared.Class.TheVariants.{Unsurveyed}
use Rattle.mesh_definitions.specs.declared.Class.{Class}
use Rattle.mesh_definitions.specs.declared.Piece.{Piece}
use Rattle.mesh_definitions.specs.declared.Rect.{Rect}
use Rattle.face_fill.specs.Beside.{joined_back, joined_on, same_kind}
use Rattle.face_fill.specs.Filled.{number_of, AreKinds}
use Rattle.face_fill.specs.Items.{item_of, piece_of, AreItems}
use Rattle.face_fill.specs.Joins.{NumbersItems}
use Rattle.face_fill.specs.Listed.{in_list, of_list}
use Rattle.face_fill.specs.Places.{item_in, item_back, piece_in, piece_joined}
use Rattle.tri_mesh.specs.TriNumbers.{tri_count}

module _ (f : Field) (r : Rect) (block : ℕ → ℕ → ℕ) (starts counts owners : List ℕ) (h : AreItems f r block (tri_count r) starts counts owners) where
  module _ (numbers : List ℕ) (count : ℕ) (n : NumbersItems f r block starts owners numbers count) where
    -- a chain of adjacent pieces keeps the number
    along : (p q : Piece) → Joined (mesh_of f r block) p q → number_of f r starts numbers p ≡ number_of f r starts numbers q
    along p q Here = refl
    along p q (Over {q = o} a c) = n.met p o a ∙ along o q c

    -- two pieces have one number exactly where they are joined
    pub numbers_faces : NumbersFaces (mesh_of f r block) (number_of f r starts numbers)
    numbers_faces p q c d =
        let m = mesh_of f r block in
        let i = item_of f r starts p in
        let j = item_of f r starts q in
        let inside_p = of_list f r block p c in
        let inside_q = of_list f r block q d in
        let there = piece_joined f r block starts counts owners h p inside_p in
        let back = joined_back m q (piece_of f r starts owners j) (piece_joined f r block starts counts owners h q inside_q) in (
          (λ e. joined_on m p (piece_of f r starts owners i) q there
              (joined_on m (piece_of f r starts owners i) (piece_of f r starts owners j) q (n.joined i j (item_in f r block starts counts owners h p inside_p) (item_in f r block starts counts owners h q inside_q) e) back)),
          along p q,
        )

    -- the numbers are those of some piece each
    pub gapless : IsGapless (mesh_of f r block) (number_of f r starts numbers) count
    gapless = record {
      below = λ p c. n.below (item_of f r starts p) (item_in f r block starts counts owners h p (of_list f r block p c));
      used = λ k l.
          let u = n.used k l in
          (piece_of f r starts owners u.0, in_list f r block (piece_of f r starts owners u.0) (piece_in f r block starts counts owners h u.0 u.1), ap (λ i. get_or numbers i 0) (item_back f r block starts counts owners h u.0 u.1) ∙ u.2);
    }

    -- items of one number are of one kind
    alike : (i j : ℕ) → i < length owners → j < length owners → get_or numbers i 0 ≡ get_or numbers j 0 → kind (mesh_of f r block) (piece_of f r starts owners i) ≡ kind (mesh_of f r block) (piece_of f r starts owners j)
    alike i j l m e = same_kind (mesh_of f r block) (piece_of f r starts owners i) (piece_of f r starts owners j) (n.joined i j l m e)

    -- one item more has its class and its block
    pub kinds_more : (k : ℕ) (classes : List Class) (blocks : List ℕ) (class : Class) (b : ℕ) → k < length owners → AreKinds f r block starts owners numbers count k classes blocks
        → class ≡ (mesh_of f r block).class (piece_of f r starts owners k) → b ≡ (mesh_of f r block).block (piece_of f r starts owners k)
        → AreKinds f r block starts owners numbers count (k + 1) (set classes (get_or numbers k 0) class) (set blocks (get_or numbers k 0) b)
    kinds_more k classes blocks class b l a e g = record {
      classes_full = length-set classes (get_or numbers k 0) class ∙ a.classes_full;
      blocks_full = length-set blocks (get_or numbers k 0) b ∙ a.blocks_full;
      each_class = λ i m. ⊎_elim
          (λ s. ap (λ x. get_or (set classes (get_or numbers k 0) class) x Unsurveyed) s ∙ (get_or-set_same classes (get_or numbers k 0) class Unsurveyed (let w = n.below k l in omega (arith, w, a.classes_full)) ∙ (e ∙ sym (ap (λ (x : Class × ℕ). x.0) (alike i k (omega (arith, m, l)) l s)))))
          (λ s. get_or-set_other classes (get_or numbers k 0) (get_or numbers i 0) class Unsurveyed s ∙ a.each_class i (earlier i m s))
          (cases_eq (get_or numbers i 0) (get_or numbers k 0));
      each_block = λ i m. ⊎_elim
          (λ s. ap (λ x. get_or (set blocks (get_or numbers k 0) b) x 0) s ∙ (get_or-set_same blocks (get_or numbers k 0) b 0 (let w = n.below k l in omega (arith, w, a.blocks_full)) ∙ (g ∙ sym (ap (λ (x : Class × ℕ). x.1) (alike i k (omega (arith, m, l)) l s)))))
          (λ s. get_or-set_other blocks (get_or numbers k 0) (get_or numbers i 0) b 0 s ∙ a.each_block i (earlier i m s))
          (cases_eq (get_or numbers i 0) (get_or numbers k 0));
    }
      where
        earlier : (i : ℕ) → i < k + 1 → ¬ (get_or numbers i 0 ≡ get_or numbers k 0) → i < k
        earlier i m s = ⊎_elim (λ e. absurd (s (ap (λ i. get_or numbers i 0) e))) (λ d. omega (arith, m, d)) (cases_eq i k)
