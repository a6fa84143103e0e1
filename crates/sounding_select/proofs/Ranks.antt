-- Candidates in the order of their ranks are in that of what they tell.
use Rattle.std.proofs.Common.{◌≡◌, ℕ, ℤ, pos, ◌+◌, ◌*◌, ◌/◌, ◌%◌, ◌-ℤ◌, ◌<◌, ◌≤◌, sym, ◌∙◌, ap, ap₂, subst, refl, arith, mul-le-mul}
use Rattle.std.specs.declared.cmp.Ordering.{Ordering}
use Rattle.std.specs.declared.cmp.Ordering.TheVariants.{Less, Equal, Greater}
use Rattle.std.specs.Ordering.{ordering_then, int_cmp, nat_cmp, MatchOrdering}
use Rattle.std.proofs.lemmas.Bool.Decides.{nat_tests}
use Rattle.std.proofs.lemmas.Cmp.{ranked, int_ranked}
use Rattle.std.proofs.lemmas.Int.{ints}
use Rattle.std.proofs.lemmas.Nat.{div-add-mod', mod_below}
use Rattle.sounding_select.specs.declared.candidates.Candidate.{Candidate}
use Rattle.sounding_select.specs.Candidates.{order_of, node_of, told_charted, told_depth}

less : (x y : ℕ) → x < y → nat_cmp x y ≡ Less
less x y h = grind (arith, nat_tests)

greater : (x y : ℕ) → y < x → nat_cmp x y ≡ Greater
greater x y h = grind (arith, nat_tests)

same_above : (p r s : ℕ) → nat_cmp (p + r) (p + s) ≡ nat_cmp r s
same_above p r s = grind (arith, nat_tests)

-- two numbers by their digits before the last and by their last ones
two_digits : (n a r b s : ℕ) → r < n → s < n → (o : Ordering) → o ≡ nat_cmp a b → nat_cmp (a * n + r) (b * n + s) ≡ ordering_then o (nat_cmp r s)
two_digits n a r b s h k Less e =
    let ahead = ranked a b Less e in
    let next : a + 1 ≤ b = omega (arith, ahead) in
    let below : (a + 1) * n ≤ b * n = mul-le-mul next (omega arith) in
    less (a * n + r) (b * n + s) (omega (arith, below, h))
two_digits n a r b s h k Equal e =
    subst (λ z. nat_cmp (a * n + r) (z * n + s) ≡ nat_cmp r s) (ranked a b Equal e) (same_above (a * n) r s)
two_digits n a r b s h k Greater e =
    let ahead = ranked a b Greater e in
    let next : b + 1 ≤ a = omega (arith, ahead) in
    let below : (b + 1) * n ≤ a * n = mul-le-mul next (omega arith) in
    greater (a * n + r) (b * n + s) (omega (arith, below, k))

by_digits : (n x y : ℕ) → 0 < n → nat_cmp x y ≡ ordering_then (nat_cmp (x / n) (y / n)) (nat_cmp (x % n) (y % n))
by_digits n x y some =
    ap₂ nat_cmp (sym (div-add-mod' x n)) (sym (div-add-mod' y n))
    ∙ two_digits n (x / n) (x % n) (y / n) (y % n) (mod_below x n some) (mod_below y n some) (nat_cmp (x / n) (y / n)) refl

then_then : (o p q : Ordering) → ordering_then (ordering_then o p) q ≡ ordering_then o (ordering_then p q)
then_then Less p q = refl
then_then Equal p q = refl
then_then Greater p q = refl

-- numbers counted from one and the same beginning
shifted : (x y k : ℕ) (o r : Ordering) → o ≡ nat_cmp x y → r ≡ int_cmp (pos x -ℤ pos k) (pos y -ℤ pos k) → o ≡ r
shifted x y k Less Less e f = refl
shifted x y k Equal Equal e f = refl
shifted x y k Greater Greater e f = refl
shifted x y k Less Equal e f = let g = ranked x y Less e in let h = int_ranked (pos x -ℤ pos k) (pos y -ℤ pos k) Equal f in absurd (omega (arith, ints, g, h))
shifted x y k Less Greater e f = let g = ranked x y Less e in let h = int_ranked (pos x -ℤ pos k) (pos y -ℤ pos k) Greater f in absurd (omega (arith, ints, g, h))
shifted x y k Equal Less e f = let g = ranked x y Equal e in let h = int_ranked (pos x -ℤ pos k) (pos y -ℤ pos k) Less f in absurd (omega (arith, ints, g, h))
shifted x y k Equal Greater e f = let g = ranked x y Equal e in let h = int_ranked (pos x -ℤ pos k) (pos y -ℤ pos k) Greater f in absurd (omega (arith, ints, g, h))
shifted x y k Greater Less e f = let g = ranked x y Greater e in let h = int_ranked (pos x -ℤ pos k) (pos y -ℤ pos k) Less f in absurd (omega (arith, ints, g, h))
shifted x y k Greater Equal e f = let g = ranked x y Greater e in let h = int_ranked (pos x -ℤ pos k) (pos y -ℤ pos k) Equal f in absurd (omega (arith, ints, g, h))

counted : (x y k : ℕ) → nat_cmp x y ≡ int_cmp (pos x -ℤ pos k) (pos y -ℤ pos k)
counted x y k = shifted x y k (nat_cmp x y) (int_cmp (pos x -ℤ pos k) (pos y -ℤ pos k)) refl refl

by_four : (x y : ℕ) → nat_cmp x y ≡ ordering_then (nat_cmp (x / 1025 / 1025 / 24000001) (y / 1025 / 1025 / 24000001))
    (ordering_then (nat_cmp (x / 1025 / 1025 % 24000001) (y / 1025 / 1025 % 24000001)) (ordering_then (nat_cmp (x / 1025 % 1025) (y / 1025 % 1025)) (nat_cmp (x % 1025) (y % 1025))))
by_four x y =
    let C = nat_cmp (x / 1025 / 1025 / 24000001) (y / 1025 / 1025 / 24000001) in
    let D = nat_cmp (x / 1025 / 1025 % 24000001) (y / 1025 / 1025 % 24000001) in
    let R = nat_cmp (x / 1025 % 1025) (y / 1025 % 1025) in
    let L = nat_cmp (x % 1025) (y % 1025) in
    by_digits 1025 x y (omega arith)
    ∙ (ap (λ o. ordering_then o L) (by_digits 1025 (x / 1025) (y / 1025) (omega arith))
    ∙ (ap (λ o. ordering_then (ordering_then o R) L) (by_digits 24000001 (x / 1025 / 1025) (y / 1025 / 1025) (omega arith))
    ∙ (then_then (ordering_then C D) R L ∙ then_then C D (ordering_then R L))))

pub by_told : (a b : Candidate) → order_of a b ≡ ordering_then (int_cmp (told_charted a) (told_charted b))
    (ordering_then (int_cmp (told_depth a) (told_depth b)) (ordering_then (nat_cmp (node_of a).row (node_of b).row) (nat_cmp (node_of a).col (node_of b).col)))
by_told a b =
    let x = a.rank in
    let y = b.rank in
    let P = ordering_then (nat_cmp (x / 1025 % 1025) (y / 1025 % 1025)) (nat_cmp (x % 1025) (y % 1025)) in
    by_four x y
    ∙ (ap (λ o. ordering_then o (ordering_then (nat_cmp (x / 1025 / 1025 % 24000001) (y / 1025 / 1025 % 24000001)) P)) (counted (x / 1025 / 1025 / 24000001) (y / 1025 / 1025 / 24000001) 120000)
    ∙ ap (λ o. ordering_then (int_cmp (told_charted a) (told_charted b)) (ordering_then o P)) (counted (x / 1025 / 1025 % 24000001) (y / 1025 / 1025 % 24000001) 12000000))
