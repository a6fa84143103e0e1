-- How many elements a filter keeps, and lists that are mapped and filtered alike.
use Rattle.std.proofs.Common.{◌≡◌, ◌≢◌, ℕ, zero, suc, ◌<◌, Bool, true, false, cond, ◌||◌, List, [], ◌∷◌, map, filter, length, get_or, refl, ap, ap₂, ◌∙◌, arith, inl, inr}
use Rattle.std.specs.List.{list_any}
use Rattle.plane_laws.proofs.Members.{In}

module _ {X : Type 0} (t : X → Bool) where
  kept_more : (b : Bool) (x : X) (rest : List X) → b ≡ true → length (cond b (x ∷ rest) rest) ≡ suc (length rest)
  kept_more true x rest e = refl
  kept_more false x rest e = absurd (cc (e))

  kept_no_more : (b : Bool) (x : X) (rest : List X) → b ≡ false → length (cond b (x ∷ rest) rest) ≡ length rest
  kept_no_more false x rest e = refl
  kept_no_more true x rest e = absurd (cc (e))

  or_first : (a b : Bool) → a ≡ true → (a || b) ≡ true
  or_first true b e = refl
  or_first false b e = absurd (cc (e))

  or_second : (a b : Bool) → b ≡ true → (a || b) ≡ true
  or_second true b e = refl
  or_second false true e = refl
  or_second false false e = absurd (cc (e))

  or_neither : (a b : Bool) → a ≡ false → b ≡ false → (a || b) ≡ false
  or_neither false false e g = refl
  or_neither false true e g = absurd (cc (g))
  or_neither true b e g = absurd (cc (e))

  -- no element passes
  abbrev pub NonePass : List X → Type 0
  NonePass xs = (k : ℕ) (d : X) → k < length xs → t (get_or xs k d) ≡ false

  -- one passes, at a place
  pub record OnePasses (xs : List X) : Type 0 where
    pub at : ℕ
    pub within : at < length xs
    pub passes : (d : X) → t (get_or xs at d) ≡ true
    pub alone : (k : ℕ) (d : X) → k < length xs → k ≢ at → t (get_or xs k d) ≡ false

  pub none_kept : (xs : List X) → NonePass xs → length (filter t xs) ≡ 0
  none_kept [] h = refl
  none_kept (x ∷ xs) h = kept_no_more (t x) x (filter t xs) (h 0 x (omega arith)) ∙ none_kept xs (λ k d l. h (suc k) d (omega (arith, l)))

  pub none_any : (xs : List X) → NonePass xs → list_any t xs ≡ false
  none_any [] h = refl
  none_any (x ∷ xs) h = or_neither (t x) (list_any t xs) (h 0 x (omega arith)) (none_any xs (λ k d l. h (suc k) d (omega (arith, l))))

  one_at : (xs : List X) (j : ℕ) → j < length xs → ((d : X) → t (get_or xs j d) ≡ true) → ((k : ℕ) (d : X) → k < length xs → k ≢ j → t (get_or xs k d) ≡ false) → (length (filter t xs) ≡ 1) × (list_any t xs ≡ true)
  one_at [] j l p h = absurd (omega (arith, l))
  one_at (x ∷ xs) zero l p h = (
    kept_more (t x) x (filter t xs) (p x) ∙ ap suc (none_kept xs (λ k d m. h (suc k) d (omega (arith, m)) (λ e. omega (arith, e)))),
    or_first (t x) (list_any t xs) (p x),
  )
  one_at (x ∷ xs) (suc j) l p h =
      let r = one_at xs j (omega (arith, l)) p (λ k d m n. h (suc k) d (omega (arith, m)) (λ e. n (omega (arith, e)))) in (
        kept_no_more (t x) x (filter t xs) (h 0 x (omega arith) (λ e. omega (arith, e))) ∙ r.0,
        or_second (t x) (list_any t xs) r.1,
      )

  pub one_kept : (xs : List X) → OnePasses xs → length (filter t xs) ≡ 1
  one_kept xs h = (one_at xs h.at h.within h.passes h.alone).0

  pub one_any : (xs : List X) → OnePasses xs → list_any t xs ≡ true
  one_any xs h = (one_at xs h.at h.within h.passes h.alone).1

-- ---- lists that are mapped first

module _ {X Y : Type 0} (t : Y → Bool) (g : X → Y) where
  kept_mapped : (b : Bool) (x : X) (xs : List X) (ys : List Y) → length ys ≡ length xs → length (cond b (g x ∷ ys) ys) ≡ length (cond b (x ∷ xs) xs)
  kept_mapped true x xs ys e = ap suc e
  kept_mapped false x xs ys e = e

  pub kept_map : (xs : List X) → length (filter t (map g xs)) ≡ length (filter (λ x. t (g x)) xs)
  kept_map [] = refl
  kept_map (x ∷ xs) = kept_mapped (t (g x)) x (filter (λ x. t (g x)) xs) (filter t (map g xs)) (kept_map xs)

  pub any_map : (xs : List X) → list_any t (map g xs) ≡ list_any (λ x. t (g x)) xs
  any_map [] = refl
  any_map (x ∷ xs) = ap (λ b. t (g x) || b) (any_map xs)

pub map_twice : {X Y Z : Type 0} (f : Y → Z) (g : X → Y) (xs : List X) → map f (map g xs) ≡ map (λ x. f (g x)) xs
map_twice f g [] = refl
map_twice f g (x ∷ xs) = ap (λ zs. f (g x) ∷ zs) (map_twice f g xs)

-- two tests that agree on a list keep the same
pub filter_agree : {X : Type 0} (p r : X → Bool) (xs : List X) → ((x : X) → In xs x → p x ≡ r x) → filter p xs ≡ filter r xs
filter_agree p r [] h = refl
filter_agree p r (x ∷ xs) h = ap₂ (λ b zs. cond b (x ∷ zs) zs) (h x (inl refl)) (filter_agree p r xs (λ y i. h y (inr i)))
