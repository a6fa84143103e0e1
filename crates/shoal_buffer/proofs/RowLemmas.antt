-- Lemmas on rows of keys.
use Rattle.std.proofs.Common.{◌≡◌, ℕ, ℤ, ◌+◌, ◌-◌, ◌<◌, ◌⊎◌, ⊎_elim, List, length, get_or, set, sym, ◌∙◌, ap, subst, arith}
use Rattle.std.proofs.lemmas.Grind.{common_steps}
use Rattle.shoal_buffer.specs.declared.picks.Pick.TheVariants.{Least}
use Rattle.shoal_buffer.specs.Picks.{better}
use Rattle.shoal_buffer.specs.Keys.{at, least_beside}

pub within : (xs : List ℤ) (k : ℕ) (d : ℤ) → k < length xs → get_or xs k d ≡ at xs k
within xs k d h = grind (arith, common_steps)

-- between two others
pub least_beside_is : (xs : List ℤ) (k : ℕ) (v : ℤ) → k + 1 < length xs → v ≡ better Least (better Least (at xs (k - 1)) (at xs k)) (at xs (k + 1)) → v ≡ least_beside xs k
least_beside_is xs k v h e = e ∙ ap (better Least (better Least (at xs (k - 1)) (at xs k))) (sym (within xs (k + 1) (at xs k) h))

last_or : (k n : ℕ) → k < n + 1 → (k < n) ⊎ (k ≡ n)
last_or k n h = grind arith

set_old : (xs : List ℤ) (n k : ℕ) (v : ℤ) → k < n → at (set xs n v) k ≡ at xs k
set_old xs n k v h = grind (arith, common_steps)

set_new : (xs : List ℤ) (n : ℕ) (v : ℤ) → n < length xs → at (set xs n v) n ≡ v
set_new xs n v h = grind (arith, common_steps)

-- one key more
pub set_more : (f : ℕ → ℤ) (xs : List ℤ) (n : ℕ) (v : ℤ) → n < length xs → ((k : ℕ) → k < n → at xs k ≡ f k) → v ≡ f n → (k : ℕ) → k < n + 1 → at (set xs n v) k ≡ f k
set_more f xs n v h each e k i = ⊎_elim
    (λ old. set_old xs n k v old ∙ each k old)
    (λ new. subst (λ j. at (set xs n v) j ≡ f j) (sym new) (set_new xs n v h ∙ e))
    (last_or k n i)
