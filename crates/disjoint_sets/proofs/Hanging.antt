use Rattle.std.proofs.Common.{◌≡◌, ℕ, ◌<◌, ◌≤◌, List, length, slice_index, get_or, set, refl, sym, ap, ◌∙◌, subst, ◌⊎◌, inl, inr, ⊎_elim, arith, get_or-set_other, get_or-set_same, length-set}
use Rattle.std.proofs.lemmas.Bool.{cases_eq}
use Rattle.std.proofs.lemmas.List.{get_or_default, set-get_or}
use Rattle.disjoint_sets.specs.Sets.{IsForest, Leads, KeepsRoots, IsTogether, AreJoined}
use Rattle.disjoint_sets.specs.Sets.Leads.{At, Up}
use Rattle.disjoint_sets.proofs.Ways.{way_exists, way_unique, root_is_root, start_inside, one_up, one_down, together_back}

-- what keeps roots twice keeps them
pub keeps_roots_twice : (a b c : List ℕ) → KeepsRoots a b → KeepsRoots b c → KeepsRoots a c
keeps_roots_twice a b c h k = record {
  each = k.each ∙ h.each;
  there = λ p r w. k.there p r (h.there p r w);
  back = λ p r w. h.back p r (k.back p r w);
}

-- an item that is no root gets its parent's parent
module _ (parents : List ℕ) (f : IsForest parents) (x : ℕ) (inside : x < length parents) (lower : slice_index parents x < x) where
  -- the item's parent
  abbrev parent : ℕ
  parent = slice_index parents x

  -- its parent's parent
  abbrev above : ℕ
  above = slice_index parents parent

  -- the parents from then on
  abbrev halved : List ℕ
  halved = set parents x above

  -- the parent's parent is below the item
  above_low : above < x
  above_low = omega (arith, f.falls parent (omega (arith, lower, inside)), lower)

  -- the item's new parent
  at_x : slice_index halved x ≡ above
  at_x = get_or-set_same parents x above 0 inside

  -- the others' parents
  at_other : (p : ℕ) → (p ≡ x → ⊥) → slice_index halved p ≡ slice_index parents p
  at_other p d = get_or-set_other parents x p above 0 d

  -- an item leads where it led
  led_there : (p r : ℕ) → Leads parents p r → Leads halved p r
  led_there p r (At l e) = At (omega (arith, length-set parents x above, l)) (at_other p (λ i. omega (arith, i, e, lower, ap (λ z. slice_index parents z) i)) ∙ e)
  led_there p r (Up l lt h) = go (led_there (slice_index parents p) r h) (cases_eq p x)
    where
      long : p < length halved
      long = omega (arith, length-set parents x above, l)

      go : Leads halved (slice_index parents p) r → (p ≡ x) ⊎ (p ≡ x → ⊥) → Leads halved p r
      go k (inl i) =
          let k' : Leads halved parent r = subst (λ z. Leads halved (slice_index parents z) r) i k in
          let e : slice_index halved parent ≡ above = at_other parent (λ j. omega (arith, j, lower)) in
          let m : Leads halved (slice_index halved x) r = subst (λ z. Leads halved z r) (e ∙ sym at_x) (one_down halved parent r k') in
          subst (λ z. Leads halved z r) (sym i) (Up (omega (arith, length-set parents x above, inside)) (omega (arith, at_x, above_low)) m)
      go k (inr d) =
          Up long (omega (arith, at_other p d, lt)) (subst (λ z. Leads halved z r) (sym (at_other p d)) k)

  -- the roots stay as they were
  pub halving_keeps_roots : KeepsRoots parents halved
  halving_keeps_roots = record {
    each = length-set parents x above;
    there = led_there;
    back = λ p s k.
        let w = way_exists parents f p (omega (arith, length-set parents x above, start_inside halved p s k)) in
        subst (λ z. Leads parents p z) (way_unique halved p w.0 s (led_there p w.0 w.1) k) w.1;
  }

-- the root b is hung under the root a
module _ (parents : List ℕ) (f : IsForest parents) (a b : ℕ) (inside_a : a < length parents) (inside_b : b < length parents) (root_a : slice_index parents a ≡ a) (root_b : slice_index parents b ≡ b) (below : a < b) where
  -- the parents from then on
  abbrev hung : List ℕ
  hung = set parents b a

  -- the new parent of b
  at_b : slice_index hung b ≡ a
  at_b = get_or-set_same parents b a 0 inside_b

  -- the others' parents
  at_rest : (p : ℕ) → (p ≡ b → ⊥) → slice_index hung p ≡ slice_index parents p
  at_rest p d = get_or-set_other parents b p a 0 d

  -- an item is one of the new list
  long : (p : ℕ) → p < length parents → p < length hung
  long p l = omega (arith, length-set parents b a, l)

  -- a is a root still
  a_leads : Leads hung a a
  a_leads = At (long a inside_a) (at_rest a (λ e. omega (arith, e, below)) ∙ root_a)

  -- what led to another root still does
  leads_still : (p r : ℕ) → Leads parents p r → (r ≡ b → ⊥) → Leads hung p r
  leads_still p r (At l e) d = At (long p l) (at_rest p d ∙ e)
  leads_still p r (Up l lt h) d =
      let n = at_rest p (λ i. omega (arith, i, lt, root_b, ap (λ z. slice_index parents z) i)) in
      Up (long p l) (omega (arith, n, lt)) (subst (λ z. Leads hung z r) (sym n) (leads_still (slice_index parents p) r h d))

  -- what led to b leads to a now
  leads_on : (p r : ℕ) → Leads parents p r → r ≡ b → Leads hung p a
  leads_on p r (At l e) i =
      subst (λ z. Leads hung z a) (sym i) (Up (long b inside_b) (omega (arith, at_b, below)) (subst (λ z. Leads hung z a) (sym at_b) a_leads))
  leads_on p r (Up l lt h) i =
      let n = at_rest p (λ j. omega (arith, j, lt, root_b, ap (λ z. slice_index parents z) j)) in
      Up (long p l) (omega (arith, n, lt)) (subst (λ z. Leads hung z a) (sym n) (leads_on (slice_index parents p) r h i))

  -- the sets of two items that led to a and b have become one
  pub hanging_joins : (p q : ℕ) → Leads parents p a → Leads parents q b → AreJoined parents hung p q
  hanging_joins p q pa qb = record {
    keeps = λ x y h. keeps x y h.0 h.1 h.2 (cases_eq h.0 b);
    joins = (a, leads_still p a pa (λ e. omega (arith, e, below)), leads_on q b qb refl);
    only = λ x y h.
        let v = way_exists parents f x (omega (arith, length-set parents b a, start_inside hung x h.0 h.1)) in
        let w = way_exists parents f y (omega (arith, length-set parents b a, start_inside hung y h.0 h.2)) in
        only x y h.0 h.1 h.2 v.0 w.0 v.1 w.1 (cases_eq v.0 b) (cases_eq w.0 b);
  }
    where
      keeps : (x y r : ℕ) → Leads parents x r → Leads parents y r → (r ≡ b) ⊎ (r ≡ b → ⊥) → IsTogether hung x y
      keeps x y r u v (inl e) = (a, leads_on x r u e, leads_on y r v e)
      keeps x y r u v (inr d) = (r, leads_still x r u d, leads_still y r v d)

      only : (x y s : ℕ) → Leads hung x s → Leads hung y s → (r t : ℕ) → Leads parents x r → Leads parents y t → (r ≡ b) ⊎ (r ≡ b → ⊥) → (t ≡ b) ⊎ (t ≡ b → ⊥) → IsTogether parents x y ⊎ ((IsTogether parents x p × IsTogether parents y q) ⊎ (IsTogether parents x q × IsTogether parents y p))
      only x y s u v r t h k (inl i) (inl j) =
          inl (b, subst (λ z. Leads parents x z) i h, subst (λ z. Leads parents y z) j k)
      only x y s u v r t h k (inl i) (inr j) =
          let n : t ≡ a = way_unique hung y t s (leads_still y t k j) v ∙ way_unique hung x s a u (leads_on x r h i) in
          inr (inr ((b, subst (λ z. Leads parents x z) i h, qb), (a, subst (λ z. Leads parents y z) n k, pa)))
      only x y s u v r t h k (inr i) (inl j) =
          let n : r ≡ a = way_unique hung x r s (leads_still x r h i) u ∙ way_unique hung y s a v (leads_on y t k j) in
          inr (inl ((a, subst (λ z. Leads parents x z) n h, pa), (b, subst (λ z. Leads parents y z) j k, qb)))
      only x y s u v r t h k (inr i) (inr j) =
          let n : t ≡ r = way_unique hung y t s (leads_still y t k j) v ∙ way_unique hung x s r u (leads_still x r h i) in
          inl (r, h, subst (λ z. Leads parents y z) n k)

-- joined the other way round
pub joined_back : (old new : List ℕ) (a b : ℕ) → AreJoined old new a b → AreJoined old new b a
joined_back old new a b j = record {
  keeps = j.keeps;
  joins = together_back new a b j.joins;
  only = λ p q h. ⊎_elim inl (λ k. inr (⊎_elim inr inl k)) (j.only p q h);
}

-- two items of one set are joined already
pub joined_already : (parents : List ℕ) (a b : ℕ) → IsTogether parents a b → AreJoined parents parents a b
joined_already parents a b h = record { keeps = λ p q k. k; joins = h; only = λ p q k. inl k }

-- joined after the roots were kept
pub joined_after : (old mid new : List ℕ) (a b : ℕ) → KeepsRoots old mid → AreJoined mid new a b → AreJoined old new a b
joined_after old mid new a b k j = record {
  keeps = λ p q h. j.keeps p q (to p q h);
  joins = j.joins;
  only = λ p q h. ⊎_elim (λ x. inl (from p q x)) (λ x. inr (⊎_elim (λ y. inl (from p a y.0, from q b y.1)) (λ y. inr (from p b y.0, from q a y.1)) x)) (j.only p q h);
}
  where
    to : (p q : ℕ) → IsTogether old p q → IsTogether mid p q
    to p q h = (h.0, k.there p h.0 h.1, k.there q h.0 h.2)

    from : (p q : ℕ) → IsTogether mid p q → IsTogether old p q
    from p q h = (h.0, k.back p h.0 h.1, k.back q h.0 h.2)

-- a walk up from an item has come to `place`: the roots are as they were, and the item leads where `place` leads
pub record Walked (old now : List ℕ) (item place : ℕ) : Type 0 where
  pub keeps : KeepsRoots old now
  pub inside : place < length now
  pub ways : (r : ℕ) → Leads now place r → Leads now item r

-- a walk goes on to the parent's parent of an item that is no root, and the item gets it for its parent
walk_halved : (old parents : List ℕ) → IsForest parents → (item place : ℕ) → Walked old parents item place → slice_index parents place < place → Walked old (set parents place (slice_index parents (slice_index parents place))) item (slice_index parents (slice_index parents place))
walk_halved old parents f item place w lower =
    let q = slice_index parents place in
    let inside_q : q < length parents = omega (arith, lower, w.inside) in
    let k = halving_keeps_roots parents f place w.inside lower in
    record {
      keeps = keeps_roots_twice old parents _ w.keeps k;
      inside = omega (arith, f.falls q inside_q, inside_q, length-set parents place (slice_index parents q));
      ways = λ r h. k.there item r (w.ways r (one_up parents f place r w.inside (one_up parents f q r inside_q (k.back (slice_index parents q) r h))));
    }

-- the same, with the values that the code has read
pub walk_halved_as_coded : (old parents : List ℕ) → IsForest parents → (item place : ℕ) → Walked old parents item place → (q : ℕ) → q ≡ get_or parents place q → (q ≡ place → ⊥) → (above : ℕ) → above ≡ get_or parents q above → Walked old (set parents place above) item above
walk_halved_as_coded old parents f item place w q read other above next =
    let q' : q ≡ slice_index parents place = read ∙ get_or_default parents place q 0 w.inside in
    let lower : slice_index parents place < place = omega (arith, q', other, f.falls place w.inside) in
    let above' : above ≡ slice_index parents (slice_index parents place) = next ∙ get_or_default parents q above 0 (omega (arith, q', lower, w.inside)) ∙ ap (λ z. slice_index parents z) q' in
    subst (λ v. Walked old (set parents place v) item v) (sym above') (walk_halved old parents f item place w lower)

-- a walk that has come to a root has found the item's, with the value that the code has read
pub walk_ends_as_coded : (old parents : List ℕ) (item place : ℕ) → Walked old parents item place → (q : ℕ) → q ≡ get_or parents place q → q ≡ place → Leads old item place
walk_ends_as_coded old parents item place w q read own =
    let root : slice_index parents place ≡ place = sym (read ∙ get_or_default parents place q 0 w.inside) ∙ own in
    w.keeps.back item place (w.ways place (At w.inside root))

-- two items are joined by their roots, the first of which is lower
pub joined_by_lower : (parents : List ℕ) → IsForest parents → (p q a b : ℕ) → Leads parents p a → Leads parents q b → a < b → AreJoined parents (set parents b a) p q
joined_by_lower parents f p q a b pa qb l =
    let ra = root_is_root parents p a pa in
    let rb = root_is_root parents q b qb in
    hanging_joins parents f a b ra.0 rb.0 ra.1 rb.1 l p q pa qb

-- two items are joined by their roots, the first of which isn't lower
pub joined_by_other : (parents : List ℕ) → IsForest parents → (p q a b : ℕ) → Leads parents p a → Leads parents q b → b ≤ a → AreJoined parents (set parents a b) p q
joined_by_other parents f p q a b pa qb l = go (cases_eq b a)
  where
    go : (b ≡ a) ⊎ (b ≡ a → ⊥) → AreJoined parents (set parents a b) p q
    go (inl e) =
        let ra = root_is_root parents p a pa in
        let same : set parents a b ≡ parents = ap (λ z. set parents a z) (e ∙ sym ra.1) ∙ set-get_or parents a 0 in
        subst (λ z. AreJoined parents z p q) (sym same) (joined_already parents p q (a, pa, subst (λ z. Leads parents q z) e qb))
    go (inr d) = joined_back parents (set parents a b) q p (joined_by_lower parents f q p b a qb pa (omega (arith, l, d)))
