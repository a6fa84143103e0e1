use Rattle.std.proofs.Common.{◌≡◌, ℕ, ◌+◌, ◌<◌, ◌≤◌, List, length, slice_index, get_or, set, sym, ap, ◌∙◌, subst, ◌⊎◌, inl, inr, arith, get_or-set_other, get_or-set_same, length-set}
use Rattle.std.proofs.lemmas.Bool.{cases_eq}
use Rattle.std.proofs.lemmas.List.{get_or_default}
use Rattle.disjoint_sets.specs.Sets.{IsForest, Leads, IsTogether, NumbersSets}
use Rattle.disjoint_sets.specs.Sets.Leads.{At, Up}
use Rattle.disjoint_sets.proofs.Ways.{way_exists, way_unique, root_is_root, root_below}

-- the items below `item` have their numbers, the others still their parents
pub record Counted (parents numbers : List ℕ) (item count : ℕ) : Type 0 where
  pub each : length numbers ≡ length parents
  pub few : count ≤ item
  pub ahead : (p : ℕ) → item ≤ p → slice_index numbers p ≡ slice_index parents p
  pub below : (p : ℕ) → p < item → slice_index numbers p < count
  pub used : (k : ℕ) → k < count → (p : ℕ) × (p < item) × (slice_index numbers p ≡ k)
  pub same : (p r : ℕ) → p < item → Leads parents p r → slice_index numbers p ≡ slice_index numbers r
  pub apart : (r s : ℕ) → r < item → s < item → slice_index parents r ≡ r → slice_index parents s ≡ s → slice_index numbers r ≡ slice_index numbers s → r ≡ s

-- once all items have their numbers these tell the sets
pub all_counted : (parents numbers : List ℕ) (item count : ℕ) → IsForest parents → length parents ≤ item → item ≤ length parents → Counted parents numbers item count → NumbersSets parents numbers count
all_counted parents numbers item count f l m c = record {
  each = c.each;
  below = λ p h. c.below p (omega (arith, h, l));
  used = λ k h. let u = c.used k h in (u.0, omega (arith, u.1, m), u.2);
  joined = λ p q h k. (λ e. to p q h k e, λ t. c.same p t.0 (omega (arith, h, l)) t.1 ∙ sym (c.same q t.0 (omega (arith, k, l)) t.2));
}
  where
    to : (p q : ℕ) → p < length parents → q < length parents → slice_index numbers p ≡ slice_index numbers q → IsTogether parents p q
    to p q h k e =
        let v = way_exists parents f p h in
        let w = way_exists parents f q k in
        let pv = root_is_root parents p v.0 v.1 in
        let qw = root_is_root parents q w.0 w.1 in
        let n : slice_index numbers v.0 ≡ slice_index numbers w.0 = sym (c.same p v.0 (omega (arith, h, l)) v.1) ∙ e ∙ c.same q w.0 (omega (arith, k, l)) w.1 in
        let i : v.0 ≡ w.0 = c.apart v.0 w.0 (omega (arith, pv.0, l)) (omega (arith, qw.0, l)) pv.1 qw.1 n in
        (w.0, subst (λ z. Leads parents p z) i v.1, w.1)

module _ (parents numbers : List ℕ) (item count : ℕ) (inside : item < length parents) (c : Counted parents numbers item count) where
  -- an item that is its own parent gets the next number
  module _ (root : slice_index parents item ≡ item) where
    -- the numbers from then on
    abbrev numbered : List ℕ
    numbered = set numbers item count

    -- the item's number
    at_item : slice_index numbered item ≡ count
    at_item = get_or-set_same numbers item count 0 (omega (arith, c.each, inside))

    -- the others' numbers
    at_rest : (p : ℕ) → (p ≡ item → ⊥) → slice_index numbered p ≡ slice_index numbers p
    at_rest p d = get_or-set_other numbers item p count 0 d

    -- the item's number is new
    is_new : (p : ℕ) → (p ≡ item → ⊥) → p < item + 1 → slice_index numbered p ≡ slice_index numbered item → ⊥
    is_new p d l e = omega (arith, e, at_rest p d, at_item, c.below p (omega (arith, d, l)))

    -- one more item is counted
    pub root_counted : Counted parents numbered (item + 1) (count + 1)
    root_counted = record {
      each = length-set numbers item count ∙ c.each;
      few = omega (arith, c.few);
      ahead = λ p l. at_rest p (λ e. omega (arith, e, l)) ∙ c.ahead p (omega (arith, l));
      below = λ p l. below p l (cases_eq p item);
      used = λ k l. used k l (cases_eq k count);
      same = λ p r l h. same p r l h (cases_eq p item);
      apart = λ r s l m e d n. apart r s l m e d n (cases_eq r item) (cases_eq s item);
    }
      where
        below : (p : ℕ) → p < item + 1 → (p ≡ item) ⊎ (p ≡ item → ⊥) → slice_index numbered p < count + 1
        below p l (inl e) = omega (arith, ap (λ z. slice_index numbered z) e, at_item)
        below p l (inr d) = omega (arith, at_rest p d, c.below p (omega (arith, d, l)))

        used : (k : ℕ) → k < count + 1 → (k ≡ count) ⊎ (k ≡ count → ⊥) → (p : ℕ) × (p < item + 1) × (slice_index numbered p ≡ k)
        used k l (inl e) = (item, omega arith, at_item ∙ sym e)
        used k l (inr d) =
            let u = c.used k (omega (arith, d, l)) in
            (u.0, omega (arith, u.1), at_rest u.0 (λ e. omega (arith, e, u.1)) ∙ u.2)

        same : (p r : ℕ) → p < item + 1 → Leads parents p r → (p ≡ item) ⊎ (p ≡ item → ⊥) → slice_index numbered p ≡ slice_index numbered r
        same p r l h (inl e) =
            let i : r ≡ item = way_unique parents item r item (subst (λ z. Leads parents z r) e h) (At inside root) in
            ap (λ z. slice_index numbered z) (e ∙ sym i)
        same p r l h (inr d) =
            let low = root_below parents p r h in
            at_rest p d ∙ c.same p r (omega (arith, d, l)) h ∙ sym (at_rest r (λ i. omega (arith, i, low, d, l)))

        apart : (r s : ℕ) → r < item + 1 → s < item + 1 → slice_index parents r ≡ r → slice_index parents s ≡ s → slice_index numbered r ≡ slice_index numbered s → (r ≡ item) ⊎ (r ≡ item → ⊥) → (s ≡ item) ⊎ (s ≡ item → ⊥) → r ≡ s
        apart r s l m e d n (inl i) (inl j) = i ∙ sym j
        apart r s l m e d n (inl i) (inr j) = absurd (is_new s j m (sym n ∙ ap (λ z. slice_index numbered z) i))
        apart r s l m e d n (inr i) (inl j) = absurd (is_new r i l (n ∙ ap (λ z. slice_index numbered z) j))
        apart r s l m e d n (inr i) (inr j) =
            c.apart r s (omega (arith, i, l)) (omega (arith, j, m)) e d (sym (at_rest r i) ∙ n ∙ at_rest s j)

  -- another item gets its parent's number
  module _ (low : slice_index parents item < item) where
    -- the number of its parent
    abbrev copied : ℕ
    copied = slice_index numbers (slice_index parents item)

    -- the numbers from then on
    abbrev numbered_along : List ℕ
    numbered_along = set numbers item copied

    -- the item's number
    at_this : slice_index numbered_along item ≡ copied
    at_this = get_or-set_same numbers item copied 0 (omega (arith, c.each, inside))

    -- the others' numbers
    at_others : (p : ℕ) → (p ≡ item → ⊥) → slice_index numbered_along p ≡ slice_index numbers p
    at_others p d = get_or-set_other numbers item p copied 0 d

    -- a root isn't the item
    no_root : (r : ℕ) → slice_index parents r ≡ r → r ≡ item → ⊥
    no_root r e i = omega (arith, e, i, low, ap (λ z. slice_index parents z) i)

    -- the item leads on over its parent
    led_by_parent : (p r : ℕ) → p ≡ item → Leads parents p r → Leads parents (slice_index parents item) r
    led_by_parent p r i (At l e) = absurd (no_root p e i)
    led_by_parent p r i (Up l f h) = subst (λ z. Leads parents (slice_index parents z) r) i h

    -- one more item is counted
    pub other_counted : Counted parents numbered_along (item + 1) count
    other_counted = record {
      each = length-set numbers item copied ∙ c.each;
      few = omega (arith, c.few);
      ahead = λ p l. at_others p (λ e. omega (arith, e, l)) ∙ c.ahead p (omega (arith, l));
      below = λ p l. below p l (cases_eq p item);
      used = λ k l. let u = c.used k l in (u.0, omega (arith, u.1), at_others u.0 (λ e. omega (arith, e, u.1)) ∙ u.2);
      same = λ p r l h. same p r l h (cases_eq p item);
      apart = λ r s l m e d n.
          let i = no_root r e in
          let j = no_root s d in
          c.apart r s (omega (arith, i, l)) (omega (arith, j, m)) e d (sym (at_others r i) ∙ n ∙ at_others s j);
    }
      where
        below : (p : ℕ) → p < item + 1 → (p ≡ item) ⊎ (p ≡ item → ⊥) → slice_index numbered_along p < count
        below p l (inl e) = omega (arith, ap (λ z. slice_index numbered_along z) e, at_this, c.below (slice_index parents item) low)
        below p l (inr d) = omega (arith, at_others p d, c.below p (omega (arith, d, l)))

        same : (p r : ℕ) → p < item + 1 → Leads parents p r → (p ≡ item) ⊎ (p ≡ item → ⊥) → slice_index numbered_along p ≡ slice_index numbered_along r
        same p r l h (inl e) =
            let h' = led_by_parent p r e h in
            let lower = root_below parents (slice_index parents item) r h' in
            ap (λ z. slice_index numbered_along z) e ∙ at_this ∙ c.same (slice_index parents item) r low h' ∙ sym (at_others r (λ i. omega (arith, i, low, lower)))
        same p r l h (inr d) =
            let lower = root_below parents p r h in
            at_others p d ∙ c.same p r (omega (arith, d, l)) h ∙ sym (at_others r (λ i. omega (arith, i, lower, d, l)))

-- an item that is its own parent gets the next number, with the value that the code has read
pub root_counted_as_coded : (parents numbers : List ℕ) (item count : ℕ) → item < length parents → Counted parents numbers item count → (read : ℕ) → read ≡ get_or numbers item read → read ≡ item → Counted parents (set numbers item count) (item + 1) (count + 1)
root_counted_as_coded parents numbers item count inside c read is own =
    root_counted parents numbers item count inside c (sym (c.ahead item (omega arith)) ∙ sym (get_or_default numbers item read 0 (omega (arith, inside, c.each))) ∙ sym is ∙ own)

-- another item gets its parent's number, with the values that the code has read
pub other_counted_as_coded : (parents numbers : List ℕ) (item count : ℕ) → IsForest parents → item < length parents → Counted parents numbers item count → (read : ℕ) → read ≡ get_or numbers item read → (read ≡ item → ⊥) → (number : ℕ) → number ≡ get_or numbers read number → Counted parents (set numbers item number) (item + 1) count
other_counted_as_coded parents numbers item count f inside c read is other number at_parent =
    let r : read ≡ slice_index parents item = is ∙ get_or_default numbers item read 0 (omega (arith, inside, c.each)) ∙ c.ahead item (omega arith) in
    let low : slice_index parents item < item = omega (arith, f.falls item inside, r, other) in
    let n : number ≡ slice_index numbers (slice_index parents item) = at_parent ∙ get_or_default numbers read number 0 (omega (arith, r, low, inside, c.each)) ∙ ap (λ z. slice_index numbers z) r in
    subst (λ z. Counted parents (set numbers item z) (item + 1) count) (sym n) (other_counted parents numbers item count inside c low)
