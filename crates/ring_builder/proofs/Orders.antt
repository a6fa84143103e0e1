-- Lists joined from the parts of a list, in any order.
use Rattle.std.proofs.Common.{◌≡◌, ℕ, zero, suc, ◌<◌, Bool, true, false, cond, List, [], ◌∷◌, ◌++◌, map, flat_map, filter, take, drop, set, length, get_or, IsPermutation, refl, sym, ap, ap₂, ◌∙◌, subst, subst₂, inl, inr, ⊎_elim, arith, append_assoc}
use Rattle.std.specs.List.{swap}
use Rattle.std.proofs.lemmas.Bool.{cases_eq, cases_lt}
use Rattle.std.proofs.lemmas.List.{set-get_or, set-set, set_comm, set_split}
use Rattle.std.proofs.lemmas.List.Concat.{flat_map-append}
use Rattle.std.proofs.lemmas.List.Edits.{swap_is}
use Rattle.std.proofs.lemmas.List.Sorted.{IsPermutation-append, IsPermutation-append_comm, IsPermutation-append_left, IsPermutation-append_right, IsPermutation-keeps, IsPermutation-refl, IsPermutation-trans}
use Rattle.plane_laws.proofs.Members.{In}

-- ---- equal lists and permutations

pub same_order : {X : Type 0} (xs ys : List X) → xs ≡ ys → IsPermutation xs ys
same_order xs ys e = subst (IsPermutation xs) e (IsPermutation-refl xs)

-- a permutation between lists that equal the two
pub order_by : {X : Type 0} (xs us vs ys : List X) → xs ≡ us → IsPermutation us vs → vs ≡ ys → IsPermutation xs ys
order_by xs us vs ys e h g = subst₂ IsPermutation (sym e) g h

-- ---- two parts in each other's place

parts_swap : {X : Type 0} (x b y c : List X) → IsPermutation (x ++ (b ++ (y ++ c))) (y ++ (b ++ (x ++ c)))
parts_swap x b y c = order_by (x ++ (b ++ (y ++ c))) ((x ++ (b ++ y)) ++ c) (((y ++ b) ++ x) ++ c) (y ++ (b ++ (x ++ c)))
    (ap (λ t. x ++ t) (sym (append_assoc b y c)) ∙ sym (append_assoc x (b ++ y) c))
    (IsPermutation-append_left c (x ++ (b ++ y)) ((y ++ b) ++ x) (IsPermutation-trans (x ++ (b ++ y)) ((b ++ y) ++ x) ((y ++ b) ++ x) (IsPermutation-append_comm x (b ++ y)) (IsPermutation-append_left x (b ++ y) (y ++ b) (IsPermutation-append_comm b y))))
    (append_assoc (y ++ b) x c ∙ append_assoc y b (x ++ c))

-- two elements of a list change their places
record AreApart {X : Type 0} (l changed : List X) : Type 0 where
  before : List X
  one : X
  between : List X
  two : X
  after : List X
  is : l ≡ before ++ (one ∷ (between ++ two ∷ after))
  now : changed ≡ before ++ (two ∷ (between ++ one ∷ after))

abbrev changed : {X : Type 0} → List X → ℕ → ℕ → X → List X
changed l i j d = set (set l i (get_or l j d)) j (get_or l i d)

apart : {X : Type 0} (l : List X) (i j : ℕ) (d : X) → i < j → j < length l → AreApart l (changed l i j d)
apart [] i j d h k = absurd (omega arith)
apart (x ∷ xs) i zero d h k = absurd (omega arith)
apart (x ∷ xs) zero (suc j) d h k =
    let y = get_or xs j d in
    record {
      before = [];
      one = x;
      between = take j xs;
      two = y;
      after = drop (suc j) xs;
      is = ap (λ t. x ∷ t) (sym (set-get_or xs j d) ∙ set_split xs j y (omega arith));
      now = ap (λ t. y ∷ t) (set_split xs j x (omega arith));
    }
apart (x ∷ xs) (suc i) (suc j) d h k =
    let r = apart xs i j d (omega arith) (omega arith) in
    record { before = x ∷ r.before; one = r.one; between = r.between; two = r.two; after = r.after; is = ap (λ t. x ∷ t) r.is; now = ap (λ t. x ∷ t) r.now }

module _ {X Y : Type 0} (f : X → List Y) where
  joined : (before : List X) (x : X) (between : List X) (y : X) (after : List X) → flat_map f (before ++ (x ∷ (between ++ y ∷ after))) ≡ flat_map f before ++ (f x ++ (flat_map f between ++ (f y ++ flat_map f after)))
  joined before x between y after = flat_map-append f before (x ∷ (between ++ y ∷ after)) ∙ ap (λ t. flat_map f before ++ (f x ++ t)) (flat_map-append f between (y ∷ after))

  apart_joined : (l now : List X) → AreApart l now → IsPermutation (flat_map f l) (flat_map f now)
  apart_joined l now r = order_by (flat_map f l)
      (flat_map f r.before ++ (f r.one ++ (flat_map f r.between ++ (f r.two ++ flat_map f r.after))))
      (flat_map f r.before ++ (f r.two ++ (flat_map f r.between ++ (f r.one ++ flat_map f r.after))))
      (flat_map f now)
      (ap (flat_map f) r.is ∙ joined r.before r.one r.between r.two r.after)
      (IsPermutation-append_right (flat_map f r.before) (f r.one ++ (flat_map f r.between ++ (f r.two ++ flat_map f r.after))) (f r.two ++ (flat_map f r.between ++ (f r.one ++ flat_map f r.after))) (parts_swap (f r.one) (flat_map f r.between) (f r.two) (flat_map f r.after)))
      (sym (ap (flat_map f) r.now ∙ joined r.before r.two r.between r.one r.after))

  changed_joined : (l : List X) (i j : ℕ) (d : X) → i < length l → j < length l → IsPermutation (flat_map f l) (flat_map f (changed l i j d))
  changed_joined l i j d h k = ⊎_elim
      (λ b. apart_joined l (changed l i j d) (apart l i j d b k))
      (λ b. ⊎_elim
      (λ e. same_order (flat_map f l) (flat_map f (changed l i j d)) (ap (flat_map f) (sym (at_one e))))
      (λ n. subst (λ z. IsPermutation (flat_map f l) (flat_map f z)) (set_comm l j i (get_or l i d) (get_or l j d) (λ e. n (sym e))) (apart_joined l (changed l j i d) (apart l j i d (omega (arith, b, n)) h)))
      (cases_eq i j))
      (cases_lt i j)
    where
      at_one : i ≡ j → changed l i j d ≡ l
      at_one e = subst (λ z. changed l i z d ≡ l) e (set-set l i (get_or l i d) (get_or l i d) ∙ set-get_or l i d)

  swap_joined : (l : List X) (i j : ℕ) → i < length l → j < length l → IsPermutation (flat_map f l) (flat_map f (swap l i j))
  swap_joined [] i j h k = absurd (omega arith)
  swap_joined (d ∷ l) i j h k = subst (λ z. IsPermutation (flat_map f (d ∷ l)) (flat_map f z)) (swap_is (d ∷ l) i j d h k) (changed_joined (d ∷ l) i j d h k)

  -- the parts of a list's elements are those of any order of it
  pub flat_map_permuted : (xs ys : List X) → IsPermutation xs ys → IsPermutation (flat_map f xs) (flat_map f ys)
  flat_map_permuted xs ys h = IsPermutation-keeps xs (λ l. IsPermutation (flat_map f xs) (flat_map f l)) (IsPermutation-refl (flat_map f xs)) (λ l i j a b p. IsPermutation-trans (flat_map f xs) (flat_map f l) (flat_map f (swap l i j)) p (swap_joined l i j a b)) ys h

-- ---- parts in pairs

pair_swap : {X : Type 0} (a b c d : List X) → IsPermutation ((a ++ b) ++ (c ++ d)) ((a ++ c) ++ (b ++ d))
pair_swap a b c d = order_by ((a ++ b) ++ (c ++ d)) (a ++ ((b ++ c) ++ d)) (a ++ ((c ++ b) ++ d)) ((a ++ c) ++ (b ++ d))
    (append_assoc a b (c ++ d) ∙ ap (λ t. a ++ t) (sym (append_assoc b c d)))
    (IsPermutation-append_right a ((b ++ c) ++ d) ((c ++ b) ++ d) (IsPermutation-append_left d (b ++ c) (c ++ b) (IsPermutation-append_comm b c)))
    (ap (λ t. a ++ t) (append_assoc c b d) ∙ sym (append_assoc a c (b ++ d)))

-- two parts of each element, element by element or first all of the one kind
pub flat_map_both : {X Y : Type 0} (f g : X → List Y) (xs : List X) → IsPermutation (flat_map (λ x. f x ++ g x) xs) (flat_map f xs ++ flat_map g xs)
flat_map_both f g [] = IsPermutation-refl []
flat_map_both f g (x ∷ xs) = IsPermutation-trans ((f x ++ g x) ++ flat_map (λ x. f x ++ g x) xs) ((f x ++ g x) ++ (flat_map f xs ++ flat_map g xs)) ((f x ++ flat_map f xs) ++ (g x ++ flat_map g xs))
    (IsPermutation-append_right (f x ++ g x) (flat_map (λ x. f x ++ g x) xs) (flat_map f xs ++ flat_map g xs) (flat_map_both f g xs))
    (pair_swap (f x) (g x) (flat_map f xs) (flat_map g xs))

-- parts of each element in any order
pub flat_map_each : {X Y : Type 0} (f g : X → List Y) (xs : List X) → ((x : X) → In xs x → IsPermutation (f x) (g x)) → IsPermutation (flat_map f xs) (flat_map g xs)
flat_map_each f g [] h = IsPermutation-refl []
flat_map_each f g (x ∷ xs) h = IsPermutation-append (f x) (g x) (flat_map f xs) (flat_map g xs) (h x (inl refl)) (flat_map_each f g xs (λ y i. h y (inr i)))

pub flat_map_same : {X Y : Type 0} (f g : X → List Y) (xs : List X) → ((x : X) → In xs x → f x ≡ g x) → flat_map f xs ≡ flat_map g xs
flat_map_same f g [] h = refl
flat_map_same f g (x ∷ xs) h = ap₂ ◌++◌ (h x (inl refl)) (flat_map_same f g xs (λ y i. h y (inr i)))

pub flat_map_map : {X Y Z : Type 0} (g : Y → List Z) (h : X → Y) (xs : List X) → flat_map g (map h xs) ≡ flat_map (λ x. g (h x)) xs
flat_map_map g h [] = refl
flat_map_map g h (x ∷ xs) = ap (λ t. g (h x) ++ t) (flat_map_map g h xs)

pub flat_map_twice : {X Y Z : Type 0} (g : Y → List Z) (h : X → List Y) (xs : List X) → flat_map g (flat_map h xs) ≡ flat_map (λ x. flat_map g (h x)) xs
flat_map_twice g h [] = refl
flat_map_twice g h (x ∷ xs) = flat_map-append g (h x) (flat_map h xs) ∙ ap (λ t. flat_map g (h x) ++ t) (flat_map_twice g h xs)

pub flat_map_none : {X Y : Type 0} (xs : List X) → flat_map (λ (x : X). let none : List Y = [] in none) xs ≡ []
flat_map_none [] = refl
flat_map_none (x ∷ xs) = flat_map_none xs

-- ---- filters

-- an element that passes a test, else none
abbrev pub one : {X : Type 0} → (X → Bool) → X → List X
one p x = cond (p x) (x ∷ []) []

pub filter_joined : {X Y : Type 0} (p : Y → Bool) (g : X → Y) (xs : List X) → filter p (map g xs) ≡ flat_map (λ x. one p (g x)) xs
filter_joined p g [] = refl
filter_joined p g (x ∷ xs) = go (p (g x)) (filter_joined p g xs)
  where
    go : (b : Bool) → filter p (map g xs) ≡ flat_map (λ x. one p (g x)) xs → cond b (g x ∷ filter p (map g xs)) (filter p (map g xs)) ≡ cond b (g x ∷ []) [] ++ flat_map (λ x. one p (g x)) xs
    go true e = ap (λ t. g x ∷ t) e
    go false e = e

-- parts that are none where a test fails are those of what passes
pub flat_map_filter : {X Y : Type 0} (f : X → List Y) (test : X → Bool) (xs : List X) → ((x : X) → In xs x → test x ≡ false → f x ≡ []) → flat_map f xs ≡ flat_map f (filter test xs)
flat_map_filter f test [] h = refl
flat_map_filter f test (x ∷ xs) h = go (test x) refl (flat_map_filter f test xs (λ y i. h y (inr i)))
  where
    go : (b : Bool) → test x ≡ b → flat_map f xs ≡ flat_map f (filter test xs) → f x ++ flat_map f xs ≡ flat_map f (cond b (x ∷ filter test xs) (filter test xs))
    go true t e = ap (λ r. f x ++ r) e
    go false t e = ap (λ r. r ++ flat_map f xs) (h x (inl refl) t) ∙ e
