-- What lists have that are joined, mapped and filtered, what holds of all on them, and lists without repetition.
use Rattle.std.proofs.Common.{◌≡◌, ◌≢◌, ◌⊎◌, ⊎_elim, inl, inr, ℕ, suc, ◌+◌, ◌<◌, ◌≤◌, Bool, true, false, cond, List, [], ◌∷◌, ◌++◌, map, length, filter, All, refl, sym, subst, ◌∙◌, arith}
use Rattle.std.specs.Prelude.{flat_map}
use Rattle.std.specs.List.{range_with_len}
use Rattle.std.proofs.lemmas.List.Elements.{All-append, All-cons, All-head, All-nil, All-tail}
use Rattle.std.proofs.lemmas.List.FromFn.{get_or-range_with_len, length-range_with_len}
use Rattle.plane_laws.proofs.Members.{In, Distinct, in_left, in_right}

pub from_append : {X : Type 0} (xs ys : List X) (z : X) → In (xs ++ ys) z → In xs z ⊎ In ys z
from_append [] ys z i = inr i
from_append (x ∷ xs) ys z i = ⊎_elim (λ e. inl (inl e)) (λ j. ⊎_elim (λ k. inl (inr k)) (λ k. inr k) (from_append xs ys z j)) i

pub from_map : {X Y : Type 0} (g : X → Y) (xs : List X) (y : Y) → In (map g xs) y → (x : X) × In xs x × (g x ≡ y)
from_map g [] y i = absurd i
from_map g (x ∷ xs) y i = ⊎_elim (λ e. (x, inl refl, e)) (λ j. let k = from_map g xs y j in (k.0, inr k.1, k.2)) i

pub in_flat_map : {X Y : Type 0} (g : X → List Y) (xs : List X) (x : X) (y : Y) → In xs x → In (g x) y → In (flat_map g xs) y
in_flat_map g [] x y i j = absurd i
in_flat_map g (z ∷ xs) x y i j = ⊎_elim
    (λ e. in_left (g z) (flat_map g xs) y (subst (λ w. In (g w) y) (sym e) j))
    (λ k. in_right (g z) (flat_map g xs) y (in_flat_map g xs x y k j))
    i

pub from_flat_map : {X Y : Type 0} (g : X → List Y) (xs : List X) (y : Y) → In (flat_map g xs) y → (x : X) × In xs x × In (g x) y
from_flat_map g [] y i = absurd i
from_flat_map g (x ∷ xs) y i = ⊎_elim (λ j. (x, inl refl, j)) (λ j. let k = from_flat_map g xs y j in (k.0, inr k.1, k.2)) (from_append (g x) (flat_map g xs) y i)

-- what holds of each element holds of all
pub all_of : {X : Type 0} (P : X → Type 0) (xs : List X) → ((x : X) → In xs x → P x) → All P xs
all_of P [] g = All-nil P
all_of P (x ∷ xs) g = All-cons P x xs (g x (inl refl)) (all_of P xs (λ y i. g y (inr i)))

-- what holds of each number below another holds of all of a range
pub all_below : (P : ℕ → Type 0) (n : ℕ) → ((k : ℕ) → k < n → P k) → All P (range_with_len 0 n)
all_below P n h k d l =
    let b : k < n = omega (arith, length-range_with_len 0 n) in
    subst P (sym (get_or-range_with_len 0 n k d b)) (h (0 + k) (omega arith))

-- what holds of all on each of several lists holds of all on the lists joined
pub all_flat : {X Y : Type 0} (P : Y → Type 0) (f : X → List Y) (xs : List X) → All (λ x. All P (f x)) xs → All P (flat_map f xs)
all_flat P f [] h = All-nil P
all_flat P f (x ∷ xs) h = All-append P (f x) (flat_map f xs) (All-head (λ z. All P (f z)) x xs h) (all_flat P f xs (All-tail (λ z. All P (f z)) x xs h))

pub all_left : {X : Type 0} (P : X → Type 0) (xs ys : List X) → All P (xs ++ ys) → All P xs
all_left P [] ys h = All-nil P
all_left P (x ∷ xs) ys h = All-cons P x xs (All-head P x (xs ++ ys) h) (all_left P xs ys (All-tail P x (xs ++ ys) h))

pub all_right : {X : Type 0} (P : X → Type 0) (xs ys : List X) → All P (xs ++ ys) → All P ys
all_right P [] ys h = h
all_right P (x ∷ xs) ys h = all_right P xs ys (All-tail P x (xs ++ ys) h)

-- what holds of all that several lists have holds of all on each
pub all_each : {X Y : Type 0} (P : Y → Type 0) (f : X → List Y) (xs : List X) → All P (flat_map f xs) → All (λ x. All P (f x)) xs
all_each P f [] h = All-nil (λ x. All P (f x))
all_each P f (x ∷ xs) h = All-cons (λ z. All P (f z)) x xs (all_left P (f x) (flat_map f xs) h) (all_each P f xs (all_right P (f x) (flat_map f xs) h))

-- ---- what a filter keeps

module _ {X : Type 0} (p : X → Bool) where
  one_kept : (b : Bool) (y x : X) (rest : List X) → p y ≡ b → In (cond b (y ∷ rest) rest) x → ((y ≡ x) × (p x ≡ true)) ⊎ In rest x
  one_kept true y x rest e i = ⊎_elim (λ g. inl (g, subst (λ z. p z ≡ true) g e)) (λ j. inr j) i
  one_kept false y x rest e i = inr i

  -- what is kept stands in the list and passes
  pub from_filter : (xs : List X) (x : X) → In (filter p xs) x → In xs x × (p x ≡ true)
  from_filter [] x i = absurd i
  from_filter (y ∷ xs) x i = ⊎_elim
      (λ a. (inl a.0, a.1))
      (λ j. let k = from_filter xs x j in (inr k.0, k.1))
      (one_kept (p y) y x (filter p xs) refl i)

  first_passes : (b : Bool) (x : X) (rest : List X) → b ≡ true → In (cond b (x ∷ rest) rest) x
  first_passes true x rest e = inl refl
  first_passes false x rest e = absurd (cc (e))

  rest_passes : (b : Bool) (y x : X) (rest : List X) → In rest x → In (cond b (y ∷ rest) rest) x
  rest_passes true y x rest i = inr i
  rest_passes false y x rest i = i

  -- what stands in the list and passes is kept
  pub in_filter : (xs : List X) (x : X) → In xs x → p x ≡ true → In (filter p xs) x
  in_filter [] x i e = absurd i
  in_filter (y ∷ xs) x i e = ⊎_elim
      (λ g. first_at y x g e xs)
      (λ j. rest_passes (p y) y x (filter p xs) (in_filter xs x j e))
      i
    where
      first_at : (y x : X) → y ≡ x → p x ≡ true → (xs : List X) → In (filter p (y ∷ xs)) x
      first_at y x g e xs = subst (λ z. In (filter p (z ∷ xs)) x) (sym g) (first_passes (p x) x (filter p xs) e)

  one_apart : (b : Bool) (y : X) (rest : List X) → ¬ (In rest y) → Distinct rest → Distinct (cond b (y ∷ rest) rest)
  one_apart true y rest n d = (n, d)
  one_apart false y rest n d = d

  -- no element is kept twice
  pub distinct_filter : (xs : List X) → Distinct xs → Distinct (filter p xs)
  distinct_filter [] d = tt
  distinct_filter (y ∷ xs) d = one_apart (p y) y (filter p xs) (λ i. d.0 (from_filter xs y i).0) (distinct_filter xs d.1)

-- ---- lengths

-- a list less one of its elements: all others still stand in it
record Less {X : Type 0} (xs : List X) (x : X) : Type 0 where
  rest : List X
  shorter : length xs ≡ suc (length rest)
  others : (y : X) → In xs y → y ≢ x → In rest y

less : {X : Type 0} (xs : List X) (x : X) → In xs x → Less xs x
less [] x i = absurd i
less (z ∷ xs) x i = ⊎_elim
    (λ e. record { rest = xs; shorter = refl; others = λ y k d. ⊎_elim (λ g. absurd (d (sym g ∙ e))) (λ j. j) k })
    (λ j.
    let l = less xs x j in
    record { rest = z ∷ l.rest; shorter = omega (arith, l.shorter); others = λ y k d. ⊎_elim (λ g. inl g) (λ m. inr (l.others y m d)) k })
    i

-- a list without repetition is no longer than one that has its elements
pub no_longer : {X : Type 0} (xs ys : List X) → Distinct xs → ((x : X) → In xs x → In ys x) → length xs ≤ length ys
no_longer [] ys d h = omega arith
no_longer (x ∷ xs) ys d h =
    let l = less ys x (h x (inl refl)) in
    let i = no_longer xs l.rest d.1 (λ y k. l.others y (h y (inr k)) (λ e. d.0 (subst (In xs) e k))) in
    omega (arith, i, l.shorter)
