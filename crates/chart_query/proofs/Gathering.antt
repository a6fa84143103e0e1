-- Tests of many things put together by "or" or by "one or the other", and how they are put together over buckets.
use Rattle.std.proofs.Common.{◌≡◌, ℕ, eqb, Bool, true, false, cond, ◌&&◌, ◌||◌, List, [], ◌∷◌, ◌++◌, map, get_or, refl, sym, ◌∙◌, ap, ap₂}
use Rattle.std.proofs.lemmas.List.Elements.{All-head, All-tail}
use Rattle.std.specs.List.{All, filter, flat_map, list_any}
use Rattle.chart_query.specs.Buckets.{bucket}
use Rattle.chart_query.specs.Split.{entry_of}
use Rattle.chart_query.specs.declared.sides.Side.{Side}
use Rattle.chart_query.specs.declared.split.Entry.{Entry}
use Rattle.plane_geom.specs.Geom.{xor}

-- a way to put two tests together
pub record IsJoin (op : Bool → Bool → Bool) : Type 0 where
  pub left : (b : Bool) → op false b ≡ b
  pub right : (b : Bool) → op b false ≡ b
  pub assoc : (a b c : Bool) → op (op a b) c ≡ op a (op b c)
  pub comm : (a b : Bool) → op a b ≡ op b a
  pub over : (a b t : Bool) → (op a b && t) ≡ op (a && t) (b && t)

abbrev pub or : Bool → Bool → Bool
or a b = a || b

pub joins_or : IsJoin or
joins_or = record { left = λ b. refl; right = right; assoc = assoc; comm = comm; over = over }
  where
    right : (b : Bool) → or b false ≡ b
    right true = refl
    right false = refl

    assoc : (a b c : Bool) → or (or a b) c ≡ or a (or b c)
    assoc true b c = refl
    assoc false b c = refl

    comm : (a b : Bool) → or a b ≡ or b a
    comm true true = refl
    comm true false = refl
    comm false true = refl
    comm false false = refl

    over : (a b t : Bool) → (or a b && t) ≡ or (a && t) (b && t)
    over true b true = refl
    over true true false = refl
    over true false false = refl
    over false b t = refl

pub joins_xor : IsJoin xor
joins_xor = record { left = λ b. refl; right = right; assoc = assoc; comm = comm; over = over }
  where
    right : (b : Bool) → xor b false ≡ b
    right true = refl
    right false = refl

    assoc : (a b c : Bool) → xor (xor a b) c ≡ xor a (xor b c)
    assoc true true true = refl
    assoc true true false = refl
    assoc true false c = refl
    assoc false b c = refl

    comm : (a b : Bool) → xor a b ≡ xor b a
    comm true true = refl
    comm true false = refl
    comm false true = refl
    comm false false = refl

    over : (a b t : Bool) → (xor a b && t) ≡ xor (a && t) (b && t)
    over true true true = refl
    over true true false = refl
    over true false true = refl
    over true false false = refl
    over false b t = refl

-- a test of each, put together
abbrev pub gather : {X : Type 0} → (Bool → Bool → Bool) → (X → Bool) → List X → Bool
gather op t [] = false
gather op t (x ∷ xs) = op (t x) (gather op t xs)

pub any_is : {X : Type 0} (t : X → Bool) (xs : List X) → list_any t xs ≡ gather or t xs
any_is t [] = refl
any_is t (x ∷ xs) = ap (λ b. t x || b) (any_is t xs)

module _ (op : Bool → Bool → Bool) (j : IsJoin op) where
  pub gather-append : {X : Type 0} (t : X → Bool) (xs ys : List X) → gather op t (xs ++ ys) ≡ op (gather op t xs) (gather op t ys)
  gather-append t [] ys = sym (j.left (gather op t ys))
  gather-append t (x ∷ xs) ys = ap (op (t x)) (gather-append t xs ys) ∙ sym (j.assoc (t x) (gather op t xs) (gather op t ys))

  pub gather-map : {X Y : Type 0} (t : Y → Bool) (f : X → Y) (xs : List X) → gather op t (map f xs) ≡ gather op (λ x. t (f x)) xs
  gather-map t f [] = refl
  gather-map t f (x ∷ xs) = ap (op (t (f x))) (gather-map t f xs)

  pub gather_agree : {X : Type 0} (t u : X → Bool) (xs : List X) → All (λ x. t x ≡ u x) xs → gather op t xs ≡ gather op u xs
  gather_agree t u [] h = refl
  gather_agree t u (x ∷ xs) h = ap₂ op (All-head (λ x. t x ≡ u x) x xs h) (gather_agree t u xs (All-tail (λ x. t x ≡ u x) x xs h))

  pub gather_none : {X : Type 0} (t : X → Bool) (xs : List X) → All (λ x. t x ≡ false) xs → gather op t xs ≡ false
  gather_none t [] h = refl
  gather_none t (x ∷ xs) h = ap₂ op (All-head (λ x. t x ≡ false) x xs h) (gather_none t xs (All-tail (λ x. t x ≡ false) x xs h)) ∙ j.left false

  pub gather_both : {X : Type 0} (t u : X → Bool) (xs : List X) → gather op (λ x. op (t x) (u x)) xs ≡ op (gather op t xs) (gather op u xs)
  gather_both t u [] = sym (j.left false)
  gather_both t u (x ∷ xs) = ap (op (op (t x) (u x))) (gather_both t u xs) ∙ crossed (t x) (u x) (gather op t xs) (gather op u xs)
    where
      crossed : (a b c d : Bool) → op (op a b) (op c d) ≡ op (op a c) (op b d)
      crossed a b c d = j.assoc a b (op c d) ∙ ap (op a) (sym (j.assoc b c d) ∙ ap (λ e. op e d) (j.comm b c) ∙ j.assoc c b d) ∙ sym (j.assoc a c (op b d))

  pub gather_over : {X : Type 0} (t : X → Bool) (b : Bool) (xs : List X) → gather op (λ x. t x && b) xs ≡ (gather op t xs && b)
  gather_over t b [] = refl
  gather_over t b (x ∷ xs) = ap (op (t x && b)) (gather_over t b xs) ∙ sym (j.over (t x) (gather op t xs) b)

  pub gather-flat_map : {X Y : Type 0} (t : Y → Bool) (g : X → List Y) (xs : List X) → gather op t (flat_map g xs) ≡ gather op (λ x. gather op t (g x)) xs
  gather-flat_map t g [] = refl
  gather-flat_map t g (x ∷ xs) = gather-append t (g x) (flat_map g xs) ∙ ap (op (gather op t (g x))) (gather-flat_map t g xs)

  gather-bucket : (t : Side → Bool) (k : ℕ) (es : List Entry) → gather op t (bucket k es) ≡ gather op (λ (e : Entry). eqb e.bucket k && t e.side) es
  gather-bucket t k [] = refl
  gather-bucket t k (e ∷ es) = by_test (eqb e.bucket k) (gather-bucket t k es)
    where
      by_test : (b : Bool) → gather op t (bucket k es) ≡ gather op (λ (e : Entry). eqb e.bucket k && t e.side) es
          → gather op t (map (λ (e : Entry). e.side) (cond b (e ∷ filter (λ (e : Entry). eqb e.bucket k) es) (filter (λ (e : Entry). eqb e.bucket k) es))) ≡ op (b && t e.side) (gather op (λ (e : Entry). eqb e.bucket k && t e.side) es)
      by_test true h = ap (op (t e.side)) h
      by_test false h = h ∙ sym (j.left (gather op (λ (e : Entry). eqb e.bucket k && t e.side) es))

  gather-buckets : (t : Side → Bool) (ks : List ℕ) (es : List Entry) → gather op t (flat_map (λ k. bucket k es) ks) ≡ gather op (λ (e : Entry). gather op (eqb e.bucket) ks && t e.side) es
  gather-buckets t [] es = sym (gather_none (λ (e : Entry). false) es (λ k d h. refl))
  gather-buckets t (k ∷ ks) es =
      gather-append t (bucket k es) (flat_map (λ k. bucket k es) ks)
      ∙ ap₂ op (gather-bucket t k es) (gather-buckets t ks es)
      ∙ sym (gather_both (λ (e : Entry). eqb e.bucket k && t e.side) (λ (e : Entry). gather op (eqb e.bucket) ks && t e.side) es)
      ∙ sym (gather_agree (λ (e : Entry). op (eqb e.bucket k) (gather op (eqb e.bucket) ks) && t e.side) (λ (e : Entry). op (eqb e.bucket k && t e.side) (gather op (eqb e.bucket) ks && t e.side)) es (λ i d h. j.over (eqb (get_or es i d).bucket k) (gather op (eqb (get_or es i d).bucket) ks) (t (get_or es i d).side)))

  -- how often some buckets are among others
  abbrev pub meets : List ℕ → List ℕ → Bool
  meets ks others = gather op (λ k. gather op (eqb k) ks) others

  -- the sides in some buckets, where each side stands in buckets of its own
  pub gather_sides : (t : Side → Bool) (ks : List ℕ) (buckets : Side → List ℕ) (sides : List Side)
      → gather op t (flat_map (λ k. bucket k (flat_map (λ s. map (entry_of s) (buckets s)) sides)) ks) ≡ gather op (λ s. meets ks (buckets s) && t s) sides
  gather_sides t ks buckets sides =
      gather-buckets t ks (flat_map (λ s. map (entry_of s) (buckets s)) sides)
      ∙ gather-flat_map (λ (e : Entry). gather op (eqb e.bucket) ks && t e.side) (λ s. map (entry_of s) (buckets s)) sides
      ∙ gather_agree (λ s. gather op (λ (e : Entry). gather op (eqb e.bucket) ks && t e.side) (map (entry_of s) (buckets s))) (λ s. meets ks (buckets s) && t s) sides
      (λ i d h. let s : Side = get_or sides i d in gather-map (λ (e : Entry). gather op (eqb e.bucket) ks && t e.side) (entry_of s) (buckets s) ∙ gather_over (λ k. gather op (eqb k) ks) (t s) (buckets s))
