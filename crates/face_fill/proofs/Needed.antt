-- The greatest of the counts is a rectangle's need.
use Rattle.std.proofs.Common.{◌≡◌, ℕ, ◌<◌, ◌≤◌, ◌⊎◌, ⊎_elim, min, Bool, true, [], length, get_or, eqb, sym, ap, ◌∙◌, subst, arith}
use Rattle.std.specs.Prelude.{Option, is_some, Contains}
use Rattle.std.proofs.lemmas.List.Sums.{count_by-le-length}
use Rattle.mesh_definitions.specs.Blocks.{alone, Asks, IsNeed}
use Rattle.mesh_definitions.specs.Blocks.Asks.{Outline, Face}
use Rattle.mesh_definitions.specs.Faces.{boundary, NumbersFaces, IsGapless}
use Rattle.mesh_definitions.specs.Field.{Field}
use Rattle.mesh_definitions.specs.Pieces.{Mesh, mesh_of, ahead, left_of}
use Rattle.mesh_definitions.specs.declared.Piece.{Piece}
use Rattle.mesh_definitions.specs.declared.Rect.{Rect}
use Rattle.face_fill.specs.Tallies.{differs, one_sided, is_of, most, IsTally}
use Rattle.face_fill.specs.declared.tables.Tally.{Tally}
use Rattle.face_fill.proofs.Boundaries.{outline_count, face_count}

-- counters at 0 have counted nothing
pub nothing_counted : (m : Mesh) (number : Piece → ℕ) (t : Tally) → t.outline ≡ 0 → ((k : ℕ) → k < length t.counts.items → get_or t.counts.items k 0 ≡ 0) → IsTally m number [] t
nothing_counted m number t o h = record { faces = λ k l. h k l; outline = o }

-- faces numbered from 0 and all sub-segments counted
pub record AreCounted (f : Field) (r : Rect) (block : ℕ → ℕ → ℕ) (number : Piece → ℕ) (t : Tally) : Type 0 where
  pub faces : NumbersFaces (mesh_of f r block) number
  pub gapless : IsGapless (mesh_of f r block) number (length t.counts.items)
  pub tally : IsTally (mesh_of f r block) number (mesh_of f r block).subs t
  pub few : length (mesh_of f r block).subs ≤ most

-- a number that is one of the counts
abbrev pub IsOne : Tally → ℕ → Type 0
IsOne t n = (n ≡ t.outline) ⊎ ((k : ℕ) × (k < length t.counts.items) × (get_or t.counts.items k 0 ≡ n))

-- a number that is the greatest of the counts
pub record IsGreatest (t : Tally) (n : ℕ) : Type 0 where
  pub outline : t.outline ≤ n
  pub counts : (k : ℕ) → k < length t.counts.items → get_or t.counts.items k 0 ≤ n
  pub one : IsOne t n

sided_few : (m : Mesh) (passes : Option Piece → Bool) → length m.subs ≤ most → min (one_sided m passes m.subs) most ≡ one_sided m passes m.subs
sided_few m passes few = let l = count_by-le-length (λ s. differs (passes (m.right_of (ahead s))) (passes (left_of m (ahead s)))) m.subs in omega (arith, l, few)

module _ (f : Field) (r : Rect) (number : Piece → ℕ) (t : Tally) (h : AreCounted f r (λ i j. 0) number t) where
  outline_is : t.outline ≡ length (boundary (alone f r) (λ p. true))
  outline_is = h.tally.outline ∙ (sided_few (alone f r) is_some h.few ∙ sym (outline_count (alone f r)))

  count_is : (face : Piece → ℕ) → NumbersFaces (alone f r) face → (p : Piece) → Contains (alone f r).pieces p → get_or t.counts.items (number p) 0 ≡ length (boundary (alone f r) (λ q. eqb (face q) (face p)))
  count_is face n p c = h.tally.faces (number p) (h.gapless.below p c) ∙ (sided_few (alone f r) (is_of number (number p)) h.few ∙ sym (face_count f r (λ i j. 0) face number n h.faces p c))

  greatest_needed : (n : ℕ) → IsGreatest t n → IsNeed f r n
  greatest_needed n g = record {
    asked = ⊎_elim
        (λ e. subst (Asks f r) (sym (e ∙ outline_is)) Outline)
        (λ e.
        let u = h.gapless.used e.0 e.1 in
        let k : length (boundary (alone f r) (λ q. eqb (number q) (number u.0))) ≡ n = sym (count_is number h.faces u.0 u.1) ∙ (ap (λ k. get_or t.counts.items k 0) u.2 ∙ e.2) in
        subst (Asks f r) k (Face number h.faces u.0 u.1))
        g.one;
    most = λ k a. by k a;
  }
    where
      by : (k : ℕ) → Asks f r k → k ≤ n
      by k Outline = omega (arith, outline_is, g.outline)
      by k (Face face m p c) = omega (arith, count_is face m p c, g.counts (number p) (h.gapless.below p c))

pub need_is : (f : Field) (r : Rect) (block : ℕ → ℕ → ℕ) (number : Piece → ℕ) (t : Tally) (n : ℕ) → AreCounted f r block number t → block ≡ (λ i j. 0) → IsGreatest t n → IsNeed f r n
need_is f r block number t n h e g = greatest_needed f r number t (subst (λ b. AreCounted f r b number t) e h) n g

-- a rectangle has one need
pub one_need : (f : Field) (r : Rect) (m n : ℕ) → IsNeed f r m → IsNeed f r n → m ≡ n
one_need f r m n h g = omega (arith, h.most n g.asked, g.most m h.asked)
