-- The parts of a link lead on from one of its nodes towards the other.
use Rattle.std.proofs.Common.{◌≡◌, ◌≢◌, ⊎_elim, ℕ, zero, suc, ◌+◌, ◌<◌, ◌≤◌, ℤ, pos, ◌+ℤ◌, ◌-ℤ◌, ◌*ℤ◌, ◌≤ℤ◌, ◌<ℤ◌, Bool, true, false, cond, Option, Some, None, [], ◌∷◌, refl, sym, ap, subst, ◌∙◌, arith}
use Rattle.std.proofs.lemmas.Bool.{cases_eq, cases_order}
use Rattle.std.proofs.lemmas.Int.{ints, by_lt_z}
use Rattle.block_laws.proofs.Steps.{point_same}
use Rattle.mesh_definitions.specs.Cuts.{Slope, crossing, falls, slope}
use Rattle.mesh_definitions.specs.Field.{Field, IsField, node_band, point}
use Rattle.mesh_definitions.specs.Mesh.{Walk, first, from, second, to}
use Rattle.mesh_definitions.specs.Pieces.{part_bands, part_ends}
use Rattle.mesh_definitions.specs.declared.Link.{Link}
use Rattle.mesh_counts_laws.proofs.Rounds.{IsLeg, graded_slope}
use Rattle.mesh_counts_laws.proofs.Slots.{IsGraded}
use Rattle.mesh_laws.proofs.Legs.{walked_part}
use Rattle.plane_geom.specs.Segments.{turned}
use Rattle.plane_geom.specs.declared.Point.{Point}
use Rattle.plane_geom.specs.declared.Seg.{Seg}
use Rattle.plane_laws.proofs.Algebra.{V, Mul, Sub, mul_neg, mul_nonneg, mul_nonpos, mul_pos, ring}
use Rattle.plane_laws.proofs.Members.{In}
use Rattle.plane_laws.specs.Outlines.{at, seg}

-- a segment from p towards q, along each axis
pub record Goes (p q : Point) (z : Seg) : Type 0 where
  pub east : p.x ≤ℤ q.x → (p.x ≤ℤ z.a.x) × (z.a.x ≤ℤ z.b.x) × (z.b.x ≤ℤ q.x)
  pub west : q.x ≤ℤ p.x → (q.x ≤ℤ z.b.x) × (z.b.x ≤ℤ z.a.x) × (z.a.x ≤ℤ p.x)
  pub north : p.y ≤ℤ q.y → (p.y ≤ℤ z.a.y) × (z.a.y ≤ℤ z.b.y) × (z.b.y ≤ℤ q.y)
  pub south : q.y ≤ℤ p.y → (q.y ≤ℤ z.b.y) × (z.b.y ≤ℤ z.a.y) × (z.a.y ≤ℤ p.y)

goes_back : (p q : Point) (z : Seg) → Goes p q z → Goes q p (turned z)
goes_back p q z h = record { east = h.west; west = h.east; north = h.south; south = h.north }

goes_whole : (p q : Point) → Goes p q (seg p q)
goes_whole p q = record {
  east = λ l. (omega (arith, ints), l, omega (arith, ints));
  west = λ l. (omega (arith, ints), l, omega (arith, ints));
  north = λ l. (omega (arith, ints), l, omega (arith, ints));
  south = λ l. (omega (arith, ints), l, omega (arith, ints));
}

less_is : (n s e : ℤ) → (n -ℤ s) *ℤ e ≡ n *ℤ e -ℤ s *ℤ e
less_is n s e = ring (Mul (Sub (V n) (V s)) (V e)) (Sub (Mul (V n) (V e)) (Mul (V s) (V e))) (omega arith)

-- slots in order from w to o are numbers in order
rising : (w e n s t o : ℤ) → pos 0 <ℤ n → pos 0 ≤ℤ s → s ≤ℤ t → t ≤ℤ n → w +ℤ n *ℤ e ≡ o → w ≤ℤ o → (w ≤ℤ (w +ℤ s *ℤ e)) × ((w +ℤ s *ℤ e) ≤ℤ (w +ℤ t *ℤ e)) × ((w +ℤ t *ℤ e) ≤ℤ o)
rising w e n s t o long low on high end l = by_lt_z e (pos 0)
    (λ down. absurd (let a = mul_neg n e long down in omega (arith, ints, a, end, l)))
    (λ up.
    let a = mul_nonneg s e low up in
    let b = mul_nonneg (t -ℤ s) e (omega (arith, ints, on)) up in
    let c = mul_nonneg (n -ℤ t) e (omega (arith, ints, high)) up in
    let d = less_is t s e in
    let g = less_is n t e in
    (omega (arith, ints, a), omega (arith, ints, b, d), omega (arith, ints, c, g, end)))

falling : (w e n s t o : ℤ) → pos 0 <ℤ n → pos 0 ≤ℤ s → s ≤ℤ t → t ≤ℤ n → w +ℤ n *ℤ e ≡ o → o ≤ℤ w → (o ≤ℤ (w +ℤ t *ℤ e)) × ((w +ℤ t *ℤ e) ≤ℤ (w +ℤ s *ℤ e)) × ((w +ℤ s *ℤ e) ≤ℤ w)
falling w e n s t o long low on high end l = by_lt_z (pos 0) e
    (λ up. absurd (let a = mul_pos n e long up in omega (arith, ints, a, end, l)))
    (λ down.
    let a = mul_nonpos s e low down in
    let b = mul_nonpos (t -ℤ s) e (omega (arith, ints, on)) down in
    let c = mul_nonpos (n -ℤ t) e (omega (arith, ints, high)) down in
    let d = less_is t s e in
    let g = less_is n t e in
    (omega (arith, ints, c, g, end), omega (arith, ints, b, d), omega (arith, ints, a)))

-- places that lie in order from u to v, one and the next
graded_goes : (u v : Point) (place : ℕ → Point) → IsGraded u v place → (k : ℕ) → Goes u v (seg (place k) (place (k + 1)))
graded_goes u v place g k =
    let a : (g.slot k) ≤ℤ (g.slot (k + 1)) = g.rises k in
    let along : Seg = seg (record { x = u.x +ℤ g.slot k *ℤ g.step.x; y = u.y +ℤ g.slot k *ℤ g.step.y }) (record { x = u.x +ℤ g.slot (k + 1) *ℤ g.step.x; y = u.y +ℤ g.slot (k + 1) *ℤ g.step.y }) in
    let h : Goes u v along = record {
      east = rising u.x g.step.x g.n (g.slot k) (g.slot (k + 1)) v.x g.long (g.low k) a (g.high (k + 1)) (ap (λ p. p.x) g.end);
      west = falling u.x g.step.x g.n (g.slot k) (g.slot (k + 1)) v.x g.long (g.low k) a (g.high (k + 1)) (ap (λ p. p.x) g.end);
      north = rising u.y g.step.y g.n (g.slot k) (g.slot (k + 1)) v.y g.long (g.low k) a (g.high (k + 1)) (ap (λ p. p.y) g.end);
      south = falling u.y g.step.y g.n (g.slot k) (g.slot (k + 1)) v.y g.long (g.low k) a (g.high (k + 1)) (ap (λ p. p.y) g.end);
    } in
    subst (λ p. Goes u v (seg p (place (k + 1)))) (sym (g.is k)) (subst (λ q. Goes u v (seg (record { x = u.x +ℤ g.slot k *ℤ g.step.x; y = u.y +ℤ g.slot k *ℤ g.step.y }) q)) (sym (g.is (k + 1))) h)

-- what lies between two places that are one lies there too
pinched : (w e s t q : ℤ) → s ≤ℤ t → t ≤ℤ q → w +ℤ s *ℤ e ≡ w +ℤ q *ℤ e → w +ℤ t *ℤ e ≡ w +ℤ s *ℤ e
pinched w e s t q low high same = by_lt_z e (pos 0)
    (λ down.
    let b = mul_nonpos (t -ℤ s) e (omega (arith, ints, low)) (omega (arith, ints, down)) in
    let c = mul_nonpos (q -ℤ t) e (omega (arith, ints, high)) (omega (arith, ints, down)) in
    let d = less_is t s e in
    let g = less_is q t e in
    omega (arith, ints, b, c, d, g, same))
    (λ up.
    let b = mul_nonneg (t -ℤ s) e (omega (arith, ints, low)) up in
    let c = mul_nonneg (q -ℤ t) e (omega (arith, ints, high)) up in
    let d = less_is t s e in
    let g = less_is q t e in
    omega (arith, ints, b, c, d, g, same))

climbs : (slot : ℕ → ℤ) → ((k : ℕ) → slot k ≤ℤ slot (k + 1)) → (j k : ℕ) → j ≤ k → slot j ≤ℤ slot k
climbs slot rises j zero l = let e : slot j ≡ slot 0 = ap slot (omega (arith, l)) in omega (arith, ints, e)
climbs slot rises j (suc k) l = ⊎_elim
    (λ e. let g : slot j ≡ slot (suc k) = ap slot e in omega (arith, ints, g))
    (λ d. let a = climbs slot rises j k (omega (arith, l, d)) in let b = rises k in let e : slot (k + 1) ≡ slot (suc k) = ap slot (omega arith) in omega (arith, ints, a, b, e))
    (cases_eq j (suc k))

one_place : (u v : Point) (place : ℕ → Point) → IsGraded u v place → (j t q : ℕ) → j ≤ t → t ≤ q → place j ≡ place q → place t ≡ place j
one_place u v place g j t q low high e =
    let same : at u g.step (g.slot j) ≡ at u g.step (g.slot q) = sym (g.is j) ∙ e ∙ g.is q in
    let a = climbs g.slot g.rises j t low in
    let b = climbs g.slot g.rises t q high in
    g.is t
    ∙ point_same (at u g.step (g.slot t)) (at u g.step (g.slot j))
    (pinched u.x g.step.x (g.slot j) (g.slot t) (g.slot q) a b (ap (λ p. p.x) same))
    (pinched u.y g.step.y (g.slot j) (g.slot t) (g.slot q) a b (ap (λ p. p.y) same))
    ∙ sym (g.is j)

module _ (f : Field) (h : IsField f) where
  -- only one part of a link begins at its first node, if all join two different points
  module _ (l : Link) (leg : IsLeg f h (record { link = l; forward = true })) where
    abbrev lift : ℕ → Seg
    lift b = seg (crossing f (slope f (first l) (second l)) b) (crossing f (slope f (first l) (second l)) (b + 1))

    apart_cut : (d : Bool) (b c : ℕ) → b < c → (cond d (turned (lift b)) (lift b)).a ≢ (cond d (turned (lift b)) (lift b)).b → (cond d (turned (lift c)) (lift c)).a ≢ (cond d (turned (lift c)) (lift c)).b
        → (cond d (turned (lift b)) (lift b)).a ≡ point f (first l) → (cond d (turned (lift c)) (lift c)).a ≡ point f (first l) → ⊥
    apart_cut true b c less p q s t =
        let g = graded_slope f h (record { link = l; forward = true }) leg in
        q (t ∙ sym s ∙ sym (one_place (point f (slope f (first l) (second l)).u) (point f (slope f (first l) (second l)).v) (crossing f (slope f (first l) (second l))) g (b + 1) c (c + 1) (omega (arith, less)) (omega arith) (s ∙ sym t)))
    apart_cut false b c less p q s t =
        let g = graded_slope f h (record { link = l; forward = true }) leg in
        p (sym (one_place (point f (slope f (first l) (second l)).u) (point f (slope f (first l) (second l)).v) (crossing f (slope f (first l) (second l))) g b (b + 1) c (omega arith) (omega (arith, less)) (s ∙ sym t)))

    apart_known : (x y : ℕ) → node_band f (first l) ≡ Some x → node_band f (second l) ≡ Some y → (b c : ℕ) → b < c → (part_ends f l b).a ≢ (part_ends f l b).b → (part_ends f l c).a ≢ (part_ends f l c).b
        → (part_ends f l b).a ≡ point f (first l) → (part_ends f l c).a ≡ point f (first l) → ⊥
    apart_known x y e k b c less p q s t =
        let one : part_ends f l b ≡ cond (falls f (first l) (second l)) (turned (lift b)) (lift b) = rw (e, k) refl in
        let two : part_ends f l c ≡ cond (falls f (first l) (second l)) (turned (lift c)) (lift c) = rw (e, k) refl in
        apart_cut (falls f (first l) (second l)) b c less
        (subst (λ z. z.a ≢ z.b) one p) (subst (λ z. z.a ≢ z.b) two q)
        (subst (λ z. z.a ≡ point f (first l)) one s) (subst (λ z. z.a ≡ point f (first l)) two t)

    alone : (b : ℕ) → In (0 ∷ []) b → 0 ≡ b
    alone b i = ⊎_elim (λ e. e) (λ n. absurd n) i

    pub one_begins : (b c : ℕ) → In (part_bands f l) b → In (part_bands f l) c → (part_ends f l b).a ≢ (part_ends f l b).b → (part_ends f l c).a ≢ (part_ends f l c).b
        → (part_ends f l b).a ≡ point f (first l) → (part_ends f l c).a ≡ point f (first l) → b ≡ c
    one_begins b c i j p q s t = by (node_band f (first l)) (node_band f (second l)) refl refl
      where
        one : part_bands f l ≡ 0 ∷ [] → b ≡ c
        one e = sym (alone b (subst (λ bands. In bands b) e i)) ∙ alone c (subst (λ bands. In bands c) e j)

        by : (x y : Option ℕ) → node_band f (first l) ≡ x → node_band f (second l) ≡ y → b ≡ c
        by None y e k = one (rw e refl)
        by (Some x) None e k = one (rw (e, k) refl)
        by (Some x) (Some y) e k = ⊎_elim
            (λ g. g)
            (λ far. absurd (⊎_elim (λ less. apart_known x y e k b c less p q s t) (λ less. apart_known x y e k c b less q p t s) far))
            (cases_order b c)

  part_goes : (l : Link) → IsLeg f h (record { link = l; forward = true }) → (b : ℕ) → Goes (point f (first l)) (point f (second l)) (part_ends f l b)
  part_goes l leg b = by (node_band f (first l)) (node_band f (second l)) refl refl
    where
      up : Seg
      up = seg (crossing f (slope f (first l) (second l)) b) (crossing f (slope f (first l) (second l)) (b + 1))

      graded : IsGraded (point f (slope f (first l) (second l)).u) (point f (slope f (first l) (second l)).v) (crossing f (slope f (first l) (second l)))
      graded = graded_slope f h (record { link = l; forward = true }) leg

      cut : (d : Bool) → falls f (first l) (second l) ≡ d → Goes (point f (first l)) (point f (second l)) (cond d (turned up) up)
      cut true e =
          let g = subst (λ (t : Slope). IsGraded (point f t.u) (point f t.v) (crossing f (slope f (first l) (second l)))) (let k : slope f (first l) (second l) ≡ record { u = second l; v = first l } = rw e refl in k) graded in
          goes_back (point f (second l)) (point f (first l)) up (graded_goes (point f (second l)) (point f (first l)) (crossing f (slope f (first l) (second l))) g b)
      cut false e =
          let g = subst (λ (t : Slope). IsGraded (point f t.u) (point f t.v) (crossing f (slope f (first l) (second l)))) (let k : slope f (first l) (second l) ≡ record { u = first l; v = second l } = rw e refl in k) graded in
          graded_goes (point f (first l)) (point f (second l)) (crossing f (slope f (first l) (second l))) g b

      by : (x y : Option ℕ) → node_band f (first l) ≡ x → node_band f (second l) ≡ y → Goes (point f (first l)) (point f (second l)) (part_ends f l b)
      by None y e k = subst (Goes (point f (first l)) (point f (second l))) (let g : seg (point f (first l)) (point f (second l)) ≡ part_ends f l b = rw e refl in g) (goes_whole (point f (first l)) (point f (second l)))
      by (Some x) None e k = subst (Goes (point f (first l)) (point f (second l))) (let g : seg (point f (first l)) (point f (second l)) ≡ part_ends f l b = rw (e, k) refl in g) (goes_whole (point f (first l)) (point f (second l)))
      by (Some x) (Some y) e k =
          let g : part_ends f l b ≡ cond (falls f (first l) (second l)) (turned up) up = rw (e, k) refl in
          subst (Goes (point f (first l)) (point f (second l))) (sym g) (cut (falls f (first l) (second l)) refl)

  -- a walked part leads on from where its walk begins towards where it ends
  pub walk_goes : (w : Walk) → IsLeg f h (record { link = w.link; forward = true }) → (b : ℕ) → Goes (point f (from w)) (point f (to w)) (walked_part f w b)
  walk_goes w leg b = by w.forward
    where
      by : (x : Bool) → Goes (point f (cond x (first w.link) (second w.link))) (point f (cond x (second w.link) (first w.link))) (cond x (part_ends f w.link b) (turned (part_ends f w.link b)))
      by true = part_goes w.link leg b
      by false = goes_back (point f (first w.link)) (point f (second w.link)) (part_ends f w.link b) (part_goes w.link leg b)
