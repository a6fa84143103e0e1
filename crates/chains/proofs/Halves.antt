use Rattle.std.proofs.Common.{◌≡◌, ℕ, zero, suc, ◌+◌, ◌<◌, ◌≤◌, ℤ, pos, ◌+ℤ◌, ◌-ℤ◌, ◌*ℤ◌, neg_ℤ, List, [], ◌∷◌, ◌++◌, None, Bool, true, false, not, cond, nat_eq, length, get_or, take, count_by, refl, sym, ap, ap₂, ◌∙◌, subst, ◌⊎◌, inl, inr, ⊎_elim, arith, eq-eqb, ne_eqb}
use Rattle.std.proofs.lemmas.Bool.{cases_eq}
use Rattle.std.proofs.lemmas.Int.{ints}
use Rattle.std.proofs.lemmas.List.{take_all, take_more}
use Rattle.std.proofs.lemmas.List.Sums.{count_by_more_yes, count_by_more_no}
use Rattle.list_counts.proofs.Ticks.{tick}
use Rattle.chains.specs.declared.Line.{Line}
use Rattle.chains.specs.declared.Half.{Half}
use Rattle.chains.specs.Nets.{line_at, begin_of, end_of, left_of, right_of, ends_at, total, at, pull}
use Rattle.chains.specs.Tracing.{back, grown, leaving}

-- induction in the form i + 1
pub induction_up : (P : ℕ → Type 0) → P 0 → ((i : ℕ) → P i → P (i + 1)) → (i : ℕ) → P i
induction_up P z s zero = z
induction_up P z s (suc i) = let e : i + 1 ≡ suc i = omega arith in subst P e (s i (induction_up P z s i))

-- a half of a line
abbrev pub half_of : ℕ → Bool → Half
half_of i f = record { line = i; forward = f }

not_not : (b : Bool) → not (not b) ≡ b
not_not true = refl
not_not false = refl

cond_not : {X : Type 0} (b : Bool) (x y : X) → cond (not b) x y ≡ cond b y x
cond_not true x y = refl
cond_not false x y = refl

-- walked back twice a half is as at first
pub back_back : (h : Half) → back (back h) ≡ h
back_back h = ap (λ b. half_of h.line b) (not_not h.forward)

pub begin_back : (lines : List Line) (h : Half) → begin_of lines (back h) ≡ end_of lines h
begin_back lines h = cond_not h.forward (line_at lines h.line).begin (line_at lines h.line).end

pub end_back : (lines : List Line) (h : Half) → end_of lines (back h) ≡ begin_of lines h
end_back lines h = cond_not h.forward (line_at lines h.line).end (line_at lines h.line).begin

pub left_back : (lines : List Line) (h : Half) → left_of lines (back h) ≡ right_of lines h
left_back lines h = cond_not h.forward (line_at lines h.line).left (line_at lines h.line).right

pub right_back : (lines : List Line) (h : Half) → right_of lines (back h) ≡ left_of lines h
right_back lines h = cond_not h.forward (line_at lines h.line).right (line_at lines h.line).left

pub back_is_injective : (g h : Half) → back g ≡ back h → g ≡ h
back_is_injective g h e = sym (back_back g) ∙ ap back e ∙ back_back h

true_false : true ≡ false → ⊥
true_false e = grind arith

-- no half is the same walked back
pub back_differs : (h : Half) → h ≡ back h → ⊥
back_differs h e = go h.forward (ap (λ g. g.forward) e)
  where
    go : (b : Bool) → b ≡ not b → ⊥
    go true q = true_false q
    go false q = true_false (sym q)

-- two halves of one line are one, or one is the other walked back
pub same_line : (g h : Half) → g.line ≡ h.line → (g ≡ h) ⊎ (g ≡ back h)
same_line g h e = ⊎_elim (λ q. inl (ap₂ half_of e q)) (λ q. inr (ap₂ half_of e q)) (go g.forward h.forward)
  where
    go : (a b : Bool) → (a ≡ b) ⊎ (a ≡ not b)
    go true true = inl refl
    go true false = inr refl
    go false true = inr refl
    go false false = inl refl

-- a half stands in a list
abbrev pub In : Half → List Half → Type 0
In x [] = ⊥
In x (y ∷ ys) = (x ≡ y) ⊎ In x ys

-- no half stands twice in a list
abbrev pub Distinct : List Half → Type 0
Distinct [] = Unit {0}
Distinct (x ∷ xs) = (In x xs → ⊥) × Distinct xs

grown_here : (q : ℕ) (h : Half) (p : ℕ) (hs : List Half) → q ≡ p → grown q h p hs ≡ h ∷ hs
grown_here q h p hs e = ap (λ b. cond b (h ∷ hs) hs) (eq-eqb q p e)

grown_other : (q : ℕ) (h : Half) (p : ℕ) (hs : List Half) → (q ≡ p → ⊥) → grown q h p hs ≡ hs
grown_other q h p hs d = ap (λ b. cond b (h ∷ hs) hs) (ne_eqb q p d)

in_grown_new : (q : ℕ) (h : Half) (p : ℕ) (hs : List Half) → q ≡ p → In h (grown q h p hs)
in_grown_new q h p hs e = subst (In h) (sym (grown_here q h p hs e)) (inl refl)

in_grown_old : (q : ℕ) (h : Half) (p : ℕ) (hs : List Half) (x : Half) → In x hs → In x (grown q h p hs)
in_grown_old q h p hs x i = ⊎_elim
    (λ e. subst (In x) (sym (grown_here q h p hs e)) (inr i))
    (λ d. subst (In x) (sym (grown_other q h p hs d)) i)
    (cases_eq q p)

in_grown_cases : (q : ℕ) (h : Half) (p : ℕ) (hs : List Half) (x : Half) → In x (grown q h p hs) → ((x ≡ h) × (q ≡ p)) ⊎ In x hs
in_grown_cases q h p hs x i = ⊎_elim
    (λ e. ⊎_elim (λ a. inl (a, e)) (λ b. inr b) (subst (In x) (grown_here q h p hs e) i))
    (λ d. inr (subst (In x) (grown_other q h p hs d) i))
    (cases_eq q p)

distinct_grown : (q : ℕ) (h : Half) (p : ℕ) (hs : List Half) → (In h hs → ⊥) → Distinct hs → Distinct (grown q h p hs)
distinct_grown q h p hs n d = ⊎_elim
    (λ e. subst Distinct (sym (grown_here q h p hs e)) (n, d))
    (λ o. subst Distinct (sym (grown_other q h p hs o)) d)
    (cases_eq q p)

module _ (lines : List Line) (p : ℕ) where
  leaving_has_last : (i : ℕ) (f : Bool) → begin_of lines (half_of i f) ≡ p → In (half_of i f) (leaving lines (suc i) p)
  leaving_has_last i true e = in_grown_old (line_at lines i).end (half_of i false) p (grown (line_at lines i).begin (half_of i true) p (leaving lines i p)) (half_of i true) (in_grown_new (line_at lines i).begin (half_of i true) p (leaving lines i p) e)
  leaving_has_last i false e = in_grown_new (line_at lines i).end (half_of i false) p (grown (line_at lines i).begin (half_of i true) p (leaving lines i p)) e

  -- each half that begins at the point is listed
  pub leaving_has : (i : ℕ) (h : Half) → h.line < i → begin_of lines h ≡ p → In h (leaving lines i p)
  leaving_has zero h l e = absurd (omega arith)
  leaving_has (suc i) h l e = ⊎_elim
      (λ s. let k : h ≡ half_of i h.forward = ap (λ z. half_of z h.forward) s in subst (λ z. In z (leaving lines (suc i) p)) (sym k) (leaving_has_last i h.forward (sym (ap (begin_of lines) k) ∙ e)))
      (λ d. in_grown_old (line_at lines i).end (half_of i false) p (grown (line_at lines i).begin (half_of i true) p (leaving lines i p)) h (in_grown_old (line_at lines i).begin (half_of i true) p (leaving lines i p) h (leaving_has i h (omega arith) e)))
      (cases_eq h.line i)

  -- no other is
  pub leaving_only : (i : ℕ) (h : Half) → In h (leaving lines i p) → (h.line < i) × (begin_of lines h ≡ p)
  leaving_only zero h n = absurd n
  leaving_only (suc i) h n = ⊎_elim
      (λ w. (let e = ap (λ z. z.line) w.0 in omega (arith, e), ap (begin_of lines) w.0 ∙ w.1))
      (λ m. ⊎_elim
      (λ w. (let e = ap (λ z. z.line) w.0 in omega (arith, e), ap (begin_of lines) w.0 ∙ w.1))
      (λ o. let r = leaving_only i h o in (omega (arith, r.0), r.1))
      (in_grown_cases (line_at lines i).begin (half_of i true) p (leaving lines i p) h m))
      (in_grown_cases (line_at lines i).end (half_of i false) p (grown (line_at lines i).begin (half_of i true) p (leaving lines i p)) h n)

  -- and none is listed twice
  pub leaving_once : (i : ℕ) → Distinct (leaving lines i p)
  leaving_once zero = tt
  leaving_once (suc i) =
      distinct_grown (line_at lines i).end (half_of i false) p (grown (line_at lines i).begin (half_of i true) p (leaving lines i p))
      (λ n. ⊎_elim (λ w. true_false (sym (ap (λ z. z.forward) w.0))) (λ o. let r = leaving_only i (half_of i false) o in omega (arith, r.0)) (in_grown_cases (line_at lines i).begin (half_of i true) p (leaving lines i p) (half_of i false) n))
      (distinct_grown (line_at lines i).begin (half_of i true) p (leaving lines i p) (λ o. let r = leaving_only i (half_of i true) o in omega (arith, r.0)) (leaving_once i))

length-grown : (q : ℕ) (h : Half) (p : ℕ) (hs : List Half) → length (grown q h p hs) ≡ tick (nat_eq q p) + length hs
length-grown q h p hs = go (nat_eq q p)
  where
    go : (b : Bool) → length (cond b (h ∷ hs) hs) ≡ tick b + length hs
    go true = omega arith
    go false = omega arith

count_more : {X : Type 0} (f : X → Bool) (xs : List X) (i : ℕ) (d : X) → i < length xs → count_by f (take (i + 1) xs) ≡ count_by f (take i xs) + tick (f (get_or xs i d))
count_more f xs i d l = go (f (get_or xs i d)) refl
  where
    go : (b : Bool) → f (get_or xs i d) ≡ b → count_by f (take (i + 1) xs) ≡ count_by f (take i xs) + tick b
    go true e = omega (arith, count_by_more_yes f xs i d l e)
    go false e = omega (arith, count_by_more_no f xs i d l e)

-- what a read past the end gives
abbrev pub no_line : Line
no_line = record { begin = 0; end = 0; left = None; right = None }

-- as many halves begin at a point as line ends lie there
pub length-leaving : (lines : List Line) (p : ℕ) → length (leaving lines (length lines) p) ≡ ends_at lines p
length-leaving lines p =
    let m = length lines in
    let whole = take_all m lines (omega arith) in
    let e = induction_up (λ i. i ≤ length lines → length (leaving lines i p) ≡ count_by (λ l. nat_eq l.begin p) (take i lines) + count_by (λ l. nat_eq l.end p) (take i lines)) (λ _. refl) step m (omega arith) in
    e ∙ ap₂ ◌+◌ (ap (count_by (λ l. nat_eq l.begin p)) whole) (ap (count_by (λ l. nat_eq l.end p)) whole)
  where
    step : (i : ℕ) → (i ≤ length lines → length (leaving lines i p) ≡ count_by (λ l. nat_eq l.begin p) (take i lines) + count_by (λ l. nat_eq l.end p) (take i lines)) → i + 1 ≤ length lines → length (leaving lines (i + 1) p) ≡ count_by (λ l. nat_eq l.begin p) (take (i + 1) lines) + count_by (λ l. nat_eq l.end p) (take (i + 1) lines)
    step i ih l =
        let h : i + 1 ≡ suc i = omega arith in
        let x = ap (λ z. length (leaving lines z p)) h in
        let a = length-grown (line_at lines i).end (half_of i false) p (grown (line_at lines i).begin (half_of i true) p (leaving lines i p)) in
        let b = length-grown (line_at lines i).begin (half_of i true) p (leaving lines i p) in
        omega (arith, x, a, b, ih (omega arith), count_more (λ l. nat_eq l.begin p) lines i no_line (omega arith), count_more (λ l. nat_eq l.end p) lines i no_line (omega arith))

-- with the face k on the right, what a half counts where it begins
abbrev pub weight : List Line → ℕ → Half → ℤ
weight lines k h = at k (right_of lines h) -ℤ at k (left_of lines h)

pub weight_back : (lines : List Line) (k : ℕ) (h : Half) → weight lines k (back h) ≡ neg_ℤ (weight lines k h)
weight_back lines k h =
    ap₂ (λ r l. at k r -ℤ at k l) (right_back lines h) (left_back lines h) ∙ turned (at k (right_of lines h)) (at k (left_of lines h))
  where
    turned : (a b : ℤ) → b -ℤ a ≡ neg_ℤ (a -ℤ b)
    turned a b = omega (arith, ints)

pub total-append : {X : Type 0} (f : X → ℤ) (xs ys : List X) → total f (xs ++ ys) ≡ total f xs +ℤ total f ys
total-append f [] ys = omega (arith, ints)
total-append f (x ∷ xs) ys = omega (arith, ints, total-append f xs ys)

total_more : {X : Type 0} (f : X → ℤ) (xs : List X) (i : ℕ) (d : X) → i < length xs → total f (take (i + 1) xs) ≡ total f (take i xs) +ℤ f (get_or xs i d)
total_more f xs i d l =
    ap (total f) (take_more xs i d l) ∙ total-append f (take i xs) (get_or xs i d ∷ []) ∙ ap (λ z. total f (take i xs) +ℤ z) (right_zero (f (get_or xs i d)))
  where
    right_zero : (z : ℤ) → z +ℤ pos 0 ≡ z
    right_zero z = omega (arith, ints)

total-grown : (f : Half → ℤ) (q : ℕ) (h : Half) (p : ℕ) (hs : List Half) → total f (grown q h p hs) ≡ cond (nat_eq q p) (f h) (pos 0) +ℤ total f hs
total-grown f q h p hs = go (nat_eq q p)
  where
    go : (b : Bool) → total f (cond b (h ∷ hs) hs) ≡ cond b (f h) (pos 0) +ℤ total f hs
    go true = refl
    go false = omega (arith, ints)

-- a line's pull is what its two halves count
pull_is : (w : ℤ) (b e : Bool) → w *ℤ (cond b (pos 1) (pos 0) -ℤ cond e (pos 1) (pos 0)) ≡ cond b w (pos 0) +ℤ cond e (neg_ℤ w) (pos 0)
pull_is w true true = omega (arith, ints)
pull_is w true false = omega (arith, ints)
pull_is w false true = omega (arith, ints)
pull_is w false false = omega (arith, ints)

-- the pull of all lines at a point is what the halves that begin there count
pub total-leaving : (lines : List Line) (k p : ℕ) → total (weight lines k) (leaving lines (length lines) p) ≡ total (pull k p) lines
total-leaving lines k p =
    let m = length lines in
    let e = induction_up (λ i. i ≤ length lines → total (weight lines k) (leaving lines i p) ≡ total (pull k p) (take i lines)) (λ _. refl) step m (omega arith) in
    e ∙ ap (total (pull k p)) (take_all m lines (omega arith))
  where
    joins : (t u e n b g s r v : ℤ) → t ≡ e +ℤ g → g ≡ b +ℤ s → e ≡ n → s ≡ r → u ≡ r +ℤ v → v ≡ b +ℤ n → t ≡ u
    joins t u e n b g s r v p1 p2 p3 p4 p5 p6 = omega (arith, ints)

    step : (i : ℕ) → (i ≤ length lines → total (weight lines k) (leaving lines i p) ≡ total (pull k p) (take i lines)) → i + 1 ≤ length lines → total (weight lines k) (leaving lines (i + 1) p) ≡ total (pull k p) (take (i + 1) lines)
    step i ih l =
        let h : i + 1 ≡ suc i = omega arith in
        let x = ap (λ z. total (weight lines k) (leaving lines z p)) h in
        let a = total-grown (weight lines k) (line_at lines i).end (half_of i false) p (grown (line_at lines i).begin (half_of i true) p (leaving lines i p)) in
        let b = total-grown (weight lines k) (line_at lines i).begin (half_of i true) p (leaving lines i p) in
        let w = pull_is (weight lines k (half_of i true)) (nat_eq (line_at lines i).begin p) (nat_eq (line_at lines i).end p) in
        let n = ap (λ z. cond (nat_eq (line_at lines i).end p) z (pos 0)) (weight_back lines k (half_of i true)) in
        joins (total (weight lines k) (leaving lines (i + 1) p)) (total (pull k p) (take (i + 1) lines)) (cond (nat_eq (line_at lines i).end p) (weight lines k (half_of i false)) (pos 0)) (cond (nat_eq (line_at lines i).end p) (neg_ℤ (weight lines k (half_of i true))) (pos 0)) (cond (nat_eq (line_at lines i).begin p) (weight lines k (half_of i true)) (pos 0)) (total (weight lines k) (grown (line_at lines i).begin (half_of i true) p (leaving lines i p))) (total (weight lines k) (leaving lines i p)) (total (pull k p) (take i lines)) (pull k p (line_at lines i)) (x ∙ a) b n (ih (omega arith)) (total_more (pull k p) lines i no_line (omega arith)) w
