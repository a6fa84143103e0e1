-- Numbers between two others, whichever of these is the greater.
use Rattle.std.proofs.Common.{◌⊎◌, ⊎_elim, inl, inr, ℤ, ◌≤ℤ◌, IsTrue, arith}
use Rattle.std.proofs.lemmas.Int.{ints, by_lt_z}
use Rattle.plane_geom.specs.Geom.{is_between}

abbrev pub Between : ℤ → ℤ → ℤ → Type 0
Between a b z = IsTrue (is_between a b z)

pub in_order : (a b z : ℤ) → a ≤ℤ z → z ≤ℤ b → Between a b z
in_order a b z l m = grind (arith, ints, l, m)

pub against : (a b z : ℤ) → b ≤ℤ z → z ≤ℤ a → Between a b z
against a b z l m = grind (arith, ints, l, m)

pub either_way : (a b z : ℤ) → Between a b z → ((a ≤ℤ z) × (z ≤ℤ b)) ⊎ ((b ≤ℤ z) × (z ≤ℤ a))
either_way a b z h = by_lt_z b a (λ l. inr (grind (arith, ints, h, l), grind (arith, ints, h, l))) (λ l. inl (grind (arith, ints, h, l), grind (arith, ints, h, l)))

pub exchanged : (a b z : ℤ) → Between a b z → Between b a z
exchanged a b z h = ⊎_elim (λ o. against b a z o.0 o.1) (λ o. in_order b a z o.0 o.1) (either_way a b z h)

-- what lies between two numbers lies on one side of a third between them
pub parted : (a b c z : ℤ) → Between a c b → Between a c z → Between a b z ⊎ Between b c z
parted a b c z h k = ⊎_elim
    (λ o. ⊎_elim (λ q. by_lt_z z b (λ l. inl (in_order a b z q.0 (omega (arith, ints, l)))) (λ l. inr (in_order b c z l q.1))) (λ q. inl (against a b z (omega (arith, ints, o, q)) (omega (arith, ints, q)))) (either_way a c z k))
    (λ o. ⊎_elim (λ q. inl (in_order a b z (omega (arith, ints, q)) (omega (arith, ints, o, q)))) (λ q. by_lt_z z b (λ l. inr (against b c z q.0 (omega (arith, ints, l)))) (λ l. inl (against a b z l q.1))) (either_way a c z k))
    (either_way a c b h)
