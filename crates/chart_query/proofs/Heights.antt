-- Heights in order, and how many are not above a height.
use Rattle.std.proofs.Common.{◌≡◌, ℕ, zero, suc, ◌+◌, ◌<◌, ◌≤◌, ltb, leb, eqb, ℤ, pos, negsuc, w32, ◌+ℤ◌, ◌<ℤ◌, ◌≤ℤ◌, Bool, true, false, cond, List, [], ◌∷◌, ◌++◌, length, get_or, take, refl, sym, ◌∙◌, ap, ap₂, subst, arith}
use Rattle.std.proofs.lemmas.Bool.{eq-eqb, le-leb, le-ltb, lt-leb, lt-ltb, true≢false, false≢true}
use Rattle.std.proofs.lemmas.Bool.Decides.{Decides-int_eq}
use Rattle.std.proofs.lemmas.Cmp.{int_cmp_total, int_eq_equiv}
use Rattle.std.proofs.lemmas.Int.{ints, by_lt_z}
use Rattle.std.proofs.lemmas.List.Elements.{All-more, All-weaker, Contains-append_left, Contains-push, recursion_from_All}
use Rattle.std.proofs.lemmas.List.Filters.{All-dedup}
use Rattle.std.proofs.lemmas.List.Kept.{Contains-dedup, IsStrictlySortedBy-dedup}
use Rattle.std.proofs.lemmas.List.Sums.{sum_by-cons}
use Rattle.std.proofs.lemmas.List.Sorted.{All-permutation, Contains-permutation, ranks_by, sorted_far}
use Rattle.std.specs.List.{All, AllByRecursion, Contains, dedup}
use Rattle.std.specs.List.Sorted.{IsPartitionedBy, IsPermutation, IsSorted, IsStrictlySortedBy}
use Rattle.std.specs.Int.RustNames.{FitsSigned, int_le, int_lt}
use Rattle.std.specs.Ordering.{eq_by_cmp, int_cmp, int_eq, is_lt}
use Rattle.std.specs.declared.cmp.Ordering.TheVariants.{Less, Equal, Greater}
use Rattle.chart_query.specs.Strips.{AreHeights, HasEnds, strip}
use Rattle.chart_query.specs.declared.sides.Side.{Side}

-- ---- the ends of sides

-- one more side, whose ends were put behind
pub ends_more : (sides : List Side) (i : ℕ) (d : Side) (heights : List ℤ) (one two : List ℤ) → i < length sides → All (HasEnds heights) (take i sides)
    → one ≡ heights ++ (get_or sides i d).segment.a.y ∷ [] → two ≡ one ++ (get_or sides i d).segment.b.y ∷ [] → All (HasEnds two) (take (i + 1) sides)
ends_more sides i d heights one two h so_far e f = All-more (HasEnds two) sides i d h (All-weaker (HasEnds heights) (HasEnds two) kept (take i sides) so_far) (within one two (get_or sides i d).segment.a.y (subst (λ t. Contains t (get_or sides i d).segment.a.y) (sym e) (Contains-push heights (get_or sides i d).segment.a.y)) f, subst (λ t. Contains t (get_or sides i d).segment.b.y) (sym f) (Contains-push one (get_or sides i d).segment.b.y))
  where
    within : (xs ys : List ℤ) (z : ℤ) → Contains xs z → ys ≡ xs ++ (get_or sides i d).segment.b.y ∷ [] → Contains ys z
    within xs ys z c e = subst (λ t. Contains t z) (sym e) (Contains-append_left xs ((get_or sides i d).segment.b.y ∷ []) z c)

    longer : (z : ℤ) → Contains heights z → Contains two z
    longer z c = within one two z (subst (λ t. Contains t z) (sym e) (Contains-append_left heights ((get_or sides i d).segment.a.y ∷ []) z c)) f

    kept : (s : Side) → HasEnds heights s → HasEnds two s
    kept s (a, b) = (longer s.segment.a.y a, longer s.segment.b.y b)

-- ---- strips

count-cons : (y h : ℤ) (hs : List ℤ) → strip (h ∷ hs) y ≡ cond (int_le h y) 1 0 + strip hs y
count-cons y h hs = sum_by-cons (λ h. cond (int_le h y) 1 0) h hs

-- where those not above y stand before those above it, the first above it has the number of the strip
pub counted : (y : ℤ) (hs : List ℤ) (n : ℕ) → n ≤ length hs → ((k : ℕ) (d : ℤ) → k < n → int_le (get_or hs k d) y ≡ true) → ((k : ℕ) (d : ℤ) → n ≤ k → k < length hs → int_le (get_or hs k d) y ≡ false) → n ≡ strip hs y
counted y [] n h low high = omega arith
counted y (h ∷ hs) zero l low high = sym (count-cons y h hs ∙ ap₂ (λ b m. cond b 1 0 + m) (high 0 h (omega arith) (omega arith)) (sym (counted y hs 0 (omega arith) (λ k d b. absurd (omega arith)) (λ k d b c. high (suc k) d (omega arith) (omega (arith, c))))))
counted y (h ∷ hs) (suc n) l low high = sym (count-cons y h hs ∙ ap₂ (λ b m. cond b 1 0 + m) (low 0 h (omega arith)) (sym (counted y hs n (omega (arith, l)) (λ k d b. low (suc k) d (omega (arith, b))) (λ k d b c. high (suc k) d (omega (arith, b)) (omega (arith, c))))) ∙ omega arith)

pub lt_of : (a b : ℤ) → a <ℤ b → int_lt a b ≡ true
lt_of a b h = grind (arith, ints)

not_less : (a b : ℤ) → is_lt (int_cmp a b) ≡ false → b ≤ℤ a
not_less a b e = by_lt_z a b (λ h. absurd (true≢false (sym (ap (λ t. is_lt (cond t Less (cond (int_lt b a) Greater Equal))) (lt_of a b h)) ∙ e))) (λ h. h)

pub ge_of : (a b : ℤ) → b ≤ℤ a → int_lt a b ≡ false
ge_of a b h = grind (arith, ints)

pub le_of : (a b : ℤ) → a ≤ℤ b → int_le a b ≡ true
le_of a b h = grind (arith, ints)

pub of_le : (a b : ℤ) → int_le a b ≡ true → a ≤ℤ b
of_le a b h = grind (arith, ints)

pub gt_of : (a b : ℤ) → b <ℤ a → int_le a b ≡ false
gt_of a b h = grind (arith, ints)

of_gt : (a b : ℤ) → int_le a b ≡ false → b <ℤ a
of_gt a b h = grind (arith, ints)

-- sorted heights are parted by y
pub parted : (y : ℤ) (hs : List ℤ) → IsSorted int_cmp hs → IsPartitionedBy (λ h. int_le h y) hs
parted y hs sorted i j d h l e =
    let far : is_lt (int_cmp (get_or hs j d) (get_or hs i d)) ≡ false = sorted_far (λ a b. is_lt (int_cmp a b)) (ranks_by int_cmp_total (λ x. x)) hs sorted i j d h l in
    let a : get_or hs i d ≤ℤ get_or hs j d = not_less (get_or hs j d) (get_or hs i d) far in
    let b : get_or hs j d ≤ℤ y = of_le (get_or hs j d) y e in
    le_of (get_or hs i d) y (omega (arith, ints))

-- a higher point is in no lower strip
strip_rises : (y z : ℤ) (hs : List ℤ) → y ≤ℤ z → strip hs y ≤ strip hs z
strip_rises y z [] h = omega arith
strip_rises y z (x ∷ xs) h = omega (arith, count-cons y x xs, count-cons z x xs, strip_rises y z xs h, no_less (int_le x y) (int_le x z) (λ e. le_of x z (let f = of_le x y e in omega (arith, ints))))
  where
    no_less : (a b : Bool) → (a ≡ true → b ≡ true) → cond a 1 0 ≤ cond b 1 0
    no_less true true f = omega arith
    no_less true false f = absurd (false≢true (f refl))
    no_less false b f = omega arith

-- and in a higher one where a height lies between
strip_higher : (y z : ℤ) (hs : List ℤ) (k : ℕ) → k < length hs → get_or hs k z ≡ z → y <ℤ z → strip hs y < strip hs z
strip_higher y z [] k l e h = absurd (omega (arith, l))
strip_higher y z (x ∷ xs) zero l e h =
    let low : cond (int_le x y) 1 0 ≡ 0 = ap {B = ℕ} (λ b. cond b 1 0) (gt_of x y (subst (λ t. y <ℤ t) (sym e) h)) in
    let high : cond (int_le x z) 1 0 ≡ 1 = ap {B = ℕ} (λ b. cond b 1 0) (le_of x z (subst (λ t. t ≤ℤ z) (sym e) (omega (arith, ints)))) in
    omega (arith, count-cons y x xs, count-cons z x xs, low, high, strip_rises y z xs (omega (arith, ints)))
strip_higher y z (x ∷ xs) (suc k) l e h = omega (arith, count-cons y x xs, count-cons z x xs, strip_higher y z xs k (omega (arith, l)) e h, no_less (int_le x y) (int_le x z) (λ f. le_of x z (let g = of_le x y f in omega (arith, ints))))
  where
    no_less : (a b : Bool) → (a ≡ true → b ≡ true) → cond a 1 0 ≤ cond b 1 0
    no_less true true f = omega arith
    no_less true false f = absurd (false≢true (f refl))
    no_less false b f = omega arith

-- whether a height is not above y, by strips
pub low_by_strips : (hs : List ℤ) (h y : ℤ) → Contains hs h → leb (strip hs h) (strip hs y) ≡ int_le h y
low_by_strips hs h y (k, l, e) = by_lt_z y h
    (λ (lt : y <ℤ h). lt-leb (strip hs h) (strip hs y) (strip_higher y h hs k l e lt) ∙ sym (gt_of h y lt))
    (λ (le : h ≤ℤ y). le-leb (strip hs h) (strip hs y) (strip_rises h y hs le) ∙ sym (le_of h y le))

pub high_by_strips : (hs : List ℤ) (h y : ℤ) → Contains hs h → ltb (strip hs y) (strip hs h) ≡ int_lt y h
high_by_strips hs h y (k, l, e) = by_lt_z y h
    (λ (lt : y <ℤ h). lt-ltb (strip hs y) (strip hs h) (strip_higher y h hs k l e lt) ∙ sym (lt_of y h lt))
    (λ (le : h ≤ℤ y). le-ltb (strip hs y) (strip hs h) (strip_rises h y hs le) ∙ sym (ge_of y h le))

-- at one height the strip is one
pub same_strip : (hs : List ℤ) (y z : ℤ) → y ≡ z → eqb (strip hs y) (strip hs z) ≡ true
same_strip hs y z e = eq-eqb (strip hs y) (strip hs z) (ap (strip hs) e)

-- ---- heights in order

less : (x y : ℤ) → int_cmp x y ≡ Less → x <ℤ y
less x y e = by_lt_z x y (λ h. h) (λ h. absurd (neither (int_lt y x) (sym (ap (λ t. cond t Less (cond (int_lt y x) Greater Equal)) (ge_of x y h)) ∙ e)))
  where
    neither : (b : Bool) → cond b Greater Equal ≡ Less → ⊥
    neither true f = cc
    neither false f = cc

-- rising numbers are no more than the range that they are in
few_from : (low : ℤ) (hs : List ℤ) → low ≤ℤ pos 2147483648 → AllByRecursion (λ z. (low ≤ℤ z) × (z <ℤ pos 2147483648)) hs → IsStrictlySortedBy int_cmp hs → (low +ℤ pos (length hs)) ≤ℤ pos 2147483648
unfolding IsStrictlySortedBy
few_from low [] h all up = omega (arith, ints)
few_from low (x ∷ hs) h all up = omega (arith, ints, few_from (x +ℤ pos 1) hs (let u = all.0.1 in omega (arith, ints)) (later hs all.1 up.0) up.1, all.0.0)
  where
    later : (ys : List ℤ) → AllByRecursion (λ z. (low ≤ℤ z) × (z <ℤ pos 2147483648)) ys → AllByRecursion (λ y. int_cmp x y ≡ Less) ys → AllByRecursion (λ z. ((x +ℤ pos 1) ≤ℤ z) × (z <ℤ pos 2147483648)) ys
    later [] a b = tt
    later (y ∷ ys) a b = ((let l = less x y b.0 in omega (arith, ints), a.0.1), later ys a.1 b.1)

no_lt : (b : Bool) → is_lt (cond b Greater Equal) ≡ false
no_lt true = refl
no_lt false = refl

-- strictly sorted numbers are sorted
sorted_from_strict : (hs : List ℤ) → IsStrictlySortedBy int_cmp hs → IsSorted int_cmp hs
unfolding IsStrictlySortedBy
sorted_from_strict [] up k d l h = absurd (omega (arith, h))
sorted_from_strict (x ∷ []) up k d l h = absurd (omega (arith, h))
sorted_from_strict (x ∷ y ∷ hs) up zero d l h = let lt = less x y up.0.0 in ap (λ b. is_lt (cond b Less (cond (int_lt x y) Greater Equal))) (ge_of y x (omega (arith, ints))) ∙ no_lt (int_lt x y)
sorted_from_strict (x ∷ y ∷ hs) up (suc k) d l h =
    let next : suc k + 1 ≡ suc (k + 1) = omega arith in
    subst (λ n. is_lt (int_cmp (get_or (x ∷ y ∷ hs) n d) (get_or (y ∷ hs) k d)) ≡ false) (sym next) (sorted_from_strict (y ∷ hs) up.1 k d (omega arith) (omega (arith, h)))

fits_between : (z : ℤ) → FitsSigned w32 z → (negsuc 2147483647 ≤ℤ z) × (z <ℤ pos 2147483648)
fits_between z h = (omega (arith, ints), omega (arith, ints))

-- sorted heights, each once
pub sorted_heights : (sides : List Side) (ends sorted heights : List ℤ) → All (HasEnds ends) sides → All (FitsSigned w32) ends → IsPermutation ends sorted → IsSorted int_cmp sorted → heights ≡ dedup int_eq sorted → AreHeights sides heights
sorted_heights sides ends sorted heights has fits moved up e = record {
  sorted = subst (IsSorted int_cmp) (sym e) (sorted_from_strict (dedup int_eq sorted) strict);
  few = omega (arith, ints, ap length e, few_from (negsuc 2147483647) (dedup int_eq sorted) (omega (arith, ints)) between strict);
  ends = All-weaker (HasEnds ends) (HasEnds heights) kept sides has;
}
  where
    strict : IsStrictlySortedBy int_cmp (dedup int_eq sorted)
    strict = IsStrictlySortedBy-dedup int_cmp_total ties sorted up
      where
        ties : (x y : ℤ) → int_eq x y ≡ eq_by_cmp int_cmp x y
        ties x y = refl

    between : AllByRecursion (λ z. (negsuc 2147483647 ≤ℤ z) × (z <ℤ pos 2147483648)) (dedup int_eq sorted)
    between = recursion_from_All (λ z. (negsuc 2147483647 ≤ℤ z) × (z <ℤ pos 2147483648)) (dedup int_eq sorted)
        (All-weaker (FitsSigned w32) (λ z. (negsuc 2147483647 ≤ℤ z) × (z <ℤ pos 2147483648)) fits_between (dedup int_eq sorted) (All-dedup int_eq (FitsSigned w32) sorted (All-permutation (FitsSigned w32) ends sorted moved fits)))

    there : (z : ℤ) → Contains ends z → Contains heights z
    there z c = subst (λ t. Contains t z) (sym e) (Contains-dedup int_eq_equiv (λ x y f. (Decides-int_eq x y).0 f) sorted z (Contains-permutation ends sorted z moved c))

    kept : (s : Side) → HasEnds ends s → HasEnds heights s
    kept s (a, b) = (there s.segment.a.y a, there s.segment.b.y b)
