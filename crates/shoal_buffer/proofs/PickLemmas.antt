-- Lemmas on the least and the greatest of numbers.
use Rattle.std.proofs.Common.{◌≡◌, ℕ, zero, suc, ◌+◌, ◌<◌, List, [], ◌∷◌, length, get_or, ℤ, Option, Some, None, ◌⊎◌, inl, inr, ⊎_elim, sym, subst, refl, arith}
use Rattle.std.proofs.lemmas.Int.{ints}
use Rattle.shoal_buffer.specs.declared.picks.Pick.{Pick}
use Rattle.shoal_buffer.specs.declared.picks.Pick.TheVariants.{Least, Greatest}
use Rattle.shoal_buffer.specs.Charted.{StandsIn}
use Rattle.shoal_buffer.specs.Picks.{better, pick_of, IsAhead, IsPickOf}

pub better_either : (pick : Pick) (a b : ℤ) → (better pick a b ≡ a) ⊎ (better pick a b ≡ b)
better_either Least a b = grind (arith, ints)
better_either Greatest a b = grind (arith, ints)

pub ahead_left : (pick : Pick) (a b : ℤ) → IsAhead pick (better pick a b) a
ahead_left Least a b = grind (arith, ints)
ahead_left Greatest a b = grind (arith, ints)

pub ahead_right : (pick : Pick) (a b : ℤ) → IsAhead pick (better pick a b) b
ahead_right Least a b = grind (arith, ints)
ahead_right Greatest a b = grind (arith, ints)

pub ahead_trans : (pick : Pick) (a b c : ℤ) → IsAhead pick a b → IsAhead pick b c → IsAhead pick a c
ahead_trans Least a b c h k = omega (arith, ints)
ahead_trans Greatest a b c h k = omega (arith, ints)

ahead_refl : (pick : Pick) (a : ℤ) → IsAhead pick a a
ahead_refl Least a = omega (arith, ints)
ahead_refl Greatest a = omega (arith, ints)

-- Q holds of what P or R holds of
pub record IsEither (P R Q : ℤ → Type 0) : Type 0 where
  pub split : (x : ℤ) → Q x → P x ⊎ R x
  pub left : (x : ℤ) → P x → Q x
  pub right : (x : ℤ) → R x → Q x

pub pick_both : (pick : Pick) (P R Q : ℤ → Type 0) (a b : Option ℤ) → IsEither P R Q → IsPickOf pick P a → IsPickOf pick R b → IsPickOf pick Q (pick_of pick a b)
pick_both pick P R Q None None e h k = λ x q. ⊎_elim (h x) (k x) (e.split x q)
pick_both pick P R Q None (Some d) e h k = record { stands = e.right d k.stands; best = λ x q. ⊎_elim (λ p. absurd (h x p)) (k.best x) (e.split x q) }
pick_both pick P R Q (Some m) None e h k = record { stands = e.left m h.stands; best = λ x q. ⊎_elim (h.best x) (λ r. absurd (k x r)) (e.split x q) }
pick_both pick P R Q (Some m) (Some d) e h k = record {
  stands = ⊎_elim (λ s. subst Q (sym s) (e.left m h.stands)) (λ s. subst Q (sym s) (e.right d k.stands)) (better_either pick m d);
  best = λ x q. ⊎_elim
      (λ p. ahead_trans pick (better pick m d) m x (ahead_left pick m d) (h.best x p))
      (λ r. ahead_trans pick (better pick m d) d x (ahead_right pick m d) (k.best x r))
      (e.split x q);
}

-- of one value
pub pick_one : (pick : Pick) (v : Option ℤ) → IsPickOf pick (λ x. v ≡ Some x) v
pick_one pick None = λ x e. cc
pick_one pick (Some d) = record { stands = refl; best = λ x e. let k : d ≡ x = cc in subst (IsAhead pick d) k (ahead_refl pick d) }

-- the same numbers
pub pick_same : (pick : Pick) (P Q : ℤ → Type 0) (r : Option ℤ) → ((x : ℤ) → P x → Q x) → ((x : ℤ) → Q x → P x) → IsPickOf pick P r → IsPickOf pick Q r
pick_same pick P Q None f g h = λ x q. h x (g x q)
pick_same pick P Q (Some m) f g h = record { stands = f m h.stands; best = λ x q. h.best x (g x q) }

-- x stands among the first n values
pub record StandsBelow (values : List (Option ℤ)) (n : ℕ) (x : ℤ) : Type 0 where
  pub at : ℕ
  pub below : at < n
  pub stands : get_or values at None ≡ Some x

last_or : (k n : ℕ) → k < n + 1 → (k < n) ⊎ (k ≡ n)
last_or k n h = grind arith

pub below_more : (values : List (Option ℤ)) (n : ℕ) → IsEither (StandsBelow values n) (λ x. get_or values n None ≡ Some x) (StandsBelow values (n + 1))
below_more values n = record {
  split = λ x s. ⊎_elim (λ k. inl (record { at = s.at; below = k; stands = s.stands })) (λ k. inr (subst (λ i. get_or values i None ≡ Some x) k s.stands)) (last_or s.at n s.below);
  left = λ x s. record { at = s.at; below = omega (arith, s.below); stands = s.stands };
  right = λ x e. record { at = n; below = omega arith; stands = e };
}

pub below_none : (values : List (Option ℤ)) (x : ℤ) → ¬ (StandsBelow values 0 x)
below_none values x s = absurd (omega (arith, s.below))

-- a value stands before the end
pub before_end : (values : List (Option ℤ)) (k : ℕ) (x : ℤ) → get_or values k None ≡ Some x → k < length values
before_end [] k x h = cc
before_end (v ∷ vs) zero x h = omega arith
before_end (v ∷ vs) (suc k) x h = let q = before_end vs k x h in omega (arith, q)

pub below_all : (pick : Pick) (values : List (Option ℤ)) (r : Option ℤ) → IsPickOf pick (StandsBelow values (length values)) r → IsPickOf pick (StandsIn values) r
below_all pick values r = pick_same pick (StandsBelow values (length values)) (StandsIn values) r (λ x s. (s.at, s.stands)) (λ x s. record { at = s.0; below = before_end values s.0 x s.1; stands = s.1 })

pub none_stands : (pick : Pick) (zs zs' : List (Option ℤ)) (r : Option ℤ) → r ≡ None → zs ≡ zs' → IsPickOf pick (StandsIn zs) r → (x : ℤ) → ¬ (StandsIn zs' x)
none_stands pick zs zs' r e f h = subst (λ ys. (x : ℤ) → ¬ (StandsIn ys x)) f (let k : IsPickOf pick (StandsIn zs) None = subst (IsPickOf pick (StandsIn zs)) e h in k)

pub some_stands : (pick : Pick) (zs zs' : List (Option ℤ)) (r : Option ℤ) (x : ℤ) → r ≡ Some x → zs ≡ zs' → IsPickOf pick (StandsIn zs) r → StandsIn zs' x
some_stands pick zs zs' r x e f h = subst (λ ys. StandsIn ys x) f (let k : IsPickOf pick (StandsIn zs) (Some x) = subst (IsPickOf pick (StandsIn zs)) e h in k.stands)
