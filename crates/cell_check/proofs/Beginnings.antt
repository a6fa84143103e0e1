-- Lines in the order in which they begin.
use Rattle.std.proofs.Common.{◌≡◌, ℕ, zero, suc, ◌+◌, ◌-◌, ◌<◌, ◌≤◌, ℤ, ◌≤ℤ◌, ◌<ℤ◌, int_le, Bool, true, not, List, length, drop, get_or, ap, sym, ◌∙◌, subst, arith, length-drop, ⊎_elim, take}
use Rattle.std.proofs.lemmas.Bool.{cases_lt}
use Rattle.std.proofs.lemmas.Int.{ints}
use Rattle.std.proofs.lemmas.List.{get_or-drop, get_or_default, get_or-take, length-take-le}
use Rattle.cell_check.specs.Sweeps.{begin_of, BeginInOrder, HaveBegun, HaveNotBegun}
use Rattle.cell_check.specs.declared.line.Line.{Line}
use Rattle.plane_geom.specs.declared.Seg.{Seg}
use Rattle.plane_strips.specs.Strips.{upward}

not_begun : (a y : ℤ) (b : Bool) → b ≡ int_le a y → not b ≡ true → y <ℤ a
not_begun a y b e f = grind (arith, ints)

pub climbs_by : {X : Type 0} (f : X → ℤ) (xs : List X) → ((k : ℕ) (d : X) → k + 1 < length xs → f (get_or xs k d) ≤ℤ f (get_or xs (k + 1) d)) → (d : X) (n j : ℕ) → j + n < length xs → f (get_or xs j d) ≤ℤ f (get_or xs (j + n) d)
climbs_by f xs up d zero j h = let e : j + 0 ≡ j = omega arith in subst (λ k. f (get_or xs j d) ≤ℤ f (get_or xs k d)) (sym e) (omega (arith, ints))
climbs_by f xs up d (suc n) j h =
    let e : j + suc n ≡ j + n + 1 = omega arith in
    let a = climbs_by f xs up d n j (omega arith) in
    let b = up (j + n) d (omega arith) in
    subst (λ k. f (get_or xs j d) ≤ℤ f (get_or xs k d)) (sym e) (omega (arith, ints, a, b))

pub climb_more : {X : Type 0} (f : X → ℤ) (xs : List X) (i : ℕ) (e g : X) → 0 < i → i < length xs → f (get_or xs (i - 1) g) ≤ℤ f (get_or xs i e) → ((k : ℕ) (d : X) → k + 1 < i → f (get_or xs k d) ≤ℤ f (get_or xs (k + 1) d)) → (k : ℕ) (d : X) → k + 1 < i + 1 → f (get_or xs k d) ≤ℤ f (get_or xs (k + 1) d)
climb_more f xs i e g low high l inv k d h = ⊎_elim
    (λ (b : k + 1 < i). inv k d b)
    (λ (b : i ≤ k + 1).
    let same : i ≡ k + 1 = omega arith in
    let back : i - 1 ≡ k = omega arith in
    let at_e : f (get_or xs i e) ≡ f (get_or xs (k + 1) d) = ap f (get_or_default xs i e d high ∙ ap (λ n. get_or xs n d) same) in
    let at_g : f (get_or xs (i - 1) g) ≡ f (get_or xs k d) = ap f (ap (λ n. get_or xs n g) back ∙ get_or_default xs k g d (omega arith)) in
    subst (λ z. z ≤ℤ f (get_or xs (k + 1) d)) at_g (subst (λ z. f (get_or xs (i - 1) g) ≤ℤ z) at_e l))
    (cases_lt (k + 1) i)

climbs : (ls : List Line) → BeginInOrder ls → (d : Line) (n j : ℕ) → j + n < length ls → begin_of (get_or ls j d) ≤ℤ begin_of (get_or ls (j + n) d)
climbs ls up d n j h = climbs_by begin_of ls up d n j h

begun_test : (a y : ℤ) (b : Bool) → b ≡ int_le a y → b ≡ true → a ≤ℤ y
begun_test a y b e f = grind (arith, ints)

pub all_begun : (ls : List Line) (to : ℕ) (y : ℤ) (e : Line) (b : Bool) → BeginInOrder ls → 0 < to → to ≤ length ls → b ≡ int_le (begin_of (get_or ls (to - 1) e)) y → b ≡ true → HaveBegun y (take to ls)
all_begun ls to y e b up low h f g k d l =
    let short : k < to = omega (arith, length-take-le to ls h) in
    let last : begin_of (get_or ls (to - 1) d) ≤ℤ y = subst (λ (x : Line). begin_of x ≤ℤ y) (get_or_default ls (to - 1) e d (omega arith)) (begun_test (begin_of (get_or ls (to - 1) e)) y b f g) in
    let there : k + (to - 1 - k) ≡ to - 1 = omega arith in
    let a : begin_of (get_or ls k d) ≤ℤ begin_of (get_or ls (to - 1) d) = subst (λ n. begin_of (get_or ls k d) ≤ℤ begin_of (get_or ls n d)) there (climbs ls up d (to - 1 - k) k (omega arith)) in
    subst (λ (x : Line). begin_of x ≤ℤ y) (sym (get_or-take to ls k d short)) (omega (arith, ints, last, a))

pub none_begun : (ls : List Line) (from : ℕ) (y : ℤ) (e : Line) (b : Bool) → BeginInOrder ls → from < length ls → b ≡ int_le (begin_of (get_or ls from e)) y → not b ≡ true → HaveNotBegun y (drop from ls)
none_begun ls from y e b up h f g k d l =
    let first : y <ℤ begin_of (get_or ls from d) = subst (λ (x : Line). y <ℤ begin_of x) (get_or_default ls from e d h) (not_begun (begin_of (get_or ls from e)) y b f g) in
    let a = climbs ls up d k from (omega (arith, length-drop from ls)) in
    subst (λ (x : Line). y <ℤ begin_of x) (sym (get_or-drop from ls k d)) (omega (arith, ints, first, a))

pub order_more : (ls : List Line) (i : ℕ) (s t : Seg) (e f : Line) → 0 < i → i < length ls → s ≡ upward (get_or ls i e).seg → t ≡ upward (get_or ls (i - 1) f).seg → t.a.y ≤ℤ s.a.y → ((k : ℕ) (d : Line) → k + 1 < i → begin_of (get_or ls k d) ≤ℤ begin_of (get_or ls (k + 1) d)) → (k : ℕ) (d : Line) → k + 1 < i + 1 → begin_of (get_or ls k d) ≤ℤ begin_of (get_or ls (k + 1) d)
order_more ls i s t e f low high se te l inv k d h = ⊎_elim
    (λ (b : k + 1 < i). inv k d b)
    (λ (b : i ≤ k + 1).
    let same : i ≡ k + 1 = omega arith in
    let back : i - 1 ≡ k = omega arith in
    let at_s : s.a.y ≡ begin_of (get_or ls (k + 1) d) = ap (λ (x : Seg). x.a.y) se ∙ ap begin_of (get_or_default ls i e d high ∙ ap (λ n. get_or ls n d) same) in
    let at_t : t.a.y ≡ begin_of (get_or ls k d) = ap (λ (x : Seg). x.a.y) te ∙ ap begin_of (ap (λ n. get_or ls n f) back ∙ get_or_default ls k f d (omega arith)) in
    subst (λ z. z ≤ℤ begin_of (get_or ls (k + 1) d)) at_t (subst (λ z. t.a.y ≤ℤ z) at_s l))
    (cases_lt (k + 1) i)
