-- A part of a leg runs the way of its leg, so parts of two legs of a triangle turn as the legs do.
use Rattle.std.proofs.Common.{◌≡◌, ◌≢◌, ℕ, ◌+◌, ℤ, pos, ◌+ℤ◌, ◌-ℤ◌, ◌*ℤ◌, ◌<ℤ◌, Bool, true, false, cond, Option, Some, None, refl, sym, ap, ap₂, subst, ◌∙◌, arith}
use Rattle.std.proofs.lemmas.Int.{ints, by_lt_z}
use Rattle.mesh_definitions.specs.Field.{Field, IsField, point, node_band}
use Rattle.mesh_definitions.specs.Mesh.{Walk, first, from, second, to}
use Rattle.depth_grid.specs.declared.node.NodeId.{NodeId}
use Rattle.mesh_counts_laws.proofs.Parts.{level_part, part_is}
use Rattle.mesh_counts_laws.proofs.Rounds.{IsLeg, graded_back, graded_on}
use Rattle.mesh_counts_laws.proofs.Slots.{IsGraded}
use Rattle.mesh_laws.proofs.Depths.{deepens}
use Rattle.mesh_laws.proofs.Legs.{crossed, walked_part}
use Rattle.plane_geom.specs.Segments.{turned}
use Rattle.plane_geom.specs.declared.Point.{Point}
use Rattle.plane_geom.specs.declared.Seg.{Seg}
use Rattle.plane_laws.specs.Outlines.{Vector, at, seg, turning}
use Rattle.plane_laws.proofs.Algebra.{ring, V, Add, Sub, Mul, mul_pos, same_sign}

-- from a segment's beginning to its end
abbrev pub run : Seg → Vector
run s = record { x = s.b.x -ℤ s.a.x; y = s.b.y -ℤ s.a.y }

-- a segment runs the way of another: so many times its run are so many times the other's
pub record RunsWith (s z : Seg) : Type 0 where
  pub n : ℤ
  pub m : ℤ
  pub some : pos 0 <ℤ n
  pub long : pos 0 <ℤ m
  pub east : n *ℤ (run s).x ≡ m *ℤ (run z).x
  pub north : n *ℤ (run s).y ≡ m *ℤ (run z).y

runs_itself : (s : Seg) → RunsWith s s
runs_itself s = record { n = pos 1; m = pos 1; some = omega (arith, ints); long = omega (arith, ints); east = refl; north = refl }

-- two segments that run the ways of two others turn as these do
pub turn_alike : (s z s' z' : Seg) → RunsWith s s' → RunsWith z z' → turning (run s') (run z') <ℤ pos 0 → turning (run s) (run z) <ℤ pos 0
turn_alike s z s' z' h k l =
    let a = run s in
    let b = run z in
    let a' = run s' in
    let b' = run z' in
    let parted : (h.n *ℤ k.n) *ℤ turning a b ≡ (h.n *ℤ a.x) *ℤ (k.n *ℤ b.y) -ℤ (h.n *ℤ a.y) *ℤ (k.n *ℤ b.x) =
    ring (Mul (Mul (V h.n) (V k.n)) (Sub (Mul (V a.x) (V b.y)) (Mul (V a.y) (V b.x)))) (Sub (Mul (Mul (V h.n) (V a.x)) (Mul (V k.n) (V b.y))) (Mul (Mul (V h.n) (V a.y)) (Mul (V k.n) (V b.x)))) (omega arith) in
    let joined : (h.m *ℤ a'.x) *ℤ (k.m *ℤ b'.y) -ℤ (h.m *ℤ a'.y) *ℤ (k.m *ℤ b'.x) ≡ (h.m *ℤ k.m) *ℤ turning a' b' =
    ring (Sub (Mul (Mul (V h.m) (V a'.x)) (Mul (V k.m) (V b'.y))) (Mul (Mul (V h.m) (V a'.y)) (Mul (V k.m) (V b'.x)))) (Mul (Mul (V h.m) (V k.m)) (Sub (Mul (V a'.x) (V b'.y)) (Mul (V a'.y) (V b'.x)))) (omega arith) in
    let e : (h.n *ℤ k.n) *ℤ turning a b ≡ (h.m *ℤ k.m) *ℤ turning a' b' =
    parted
    ∙ (ap₂ (λ x y. x *ℤ y -ℤ (h.n *ℤ a.y) *ℤ (k.n *ℤ b.x)) h.east k.north
    ∙ (ap₂ (λ x y. (h.m *ℤ a'.x) *ℤ (k.m *ℤ b'.y) -ℤ x *ℤ y) h.north k.east
    ∙ joined)) in
    (same_sign (h.n *ℤ k.n) (h.m *ℤ k.m) (turning a b) (turning a' b') (mul_pos h.n k.n h.some k.some) (mul_pos h.m k.m h.long k.long) e).negative l

-- ---- between two levels

module _ (u v : Point) (place : ℕ → Point) (g : IsGraded u v place) (b : ℕ) (apart : place b ≢ place (b + 1)) where
  abbrev length_of : ℤ
  length_of = g.slot (b + 1) -ℤ g.slot b

  some_length : pos 0 <ℤ length_of
  some_length = by_lt_z (pos 0) length_of
      (λ l. l)
      (λ l.
      let r = g.rises b in
      let e : g.slot b ≡ g.slot (b + 1) = omega (arith, ints, l, r) in
      absurd (apart (g.is b ∙ (ap (λ t. at u g.step t) e ∙ sym (g.is (b + 1))))))

  scaled : (w e n s t : ℤ) → n *ℤ ((w +ℤ t *ℤ e) -ℤ (w +ℤ s *ℤ e)) ≡ (t -ℤ s) *ℤ ((w +ℤ n *ℤ e) -ℤ w)
  scaled w e n s t = ring (Mul (V n) (Sub (Add (V w) (Mul (V t) (V e))) (Add (V w) (Mul (V s) (V e))))) (Mul (Sub (V t) (V s)) (Sub (Add (V w) (Mul (V n) (V e))) (V w))) (omega arith)

  scaled_back : (w e n s t : ℤ) → n *ℤ ((w +ℤ s *ℤ e) -ℤ (w +ℤ t *ℤ e)) ≡ (t -ℤ s) *ℤ (w -ℤ (w +ℤ n *ℤ e))
  scaled_back w e n s t = ring (Mul (V n) (Sub (Add (V w) (Mul (V s) (V e))) (Add (V w) (Mul (V t) (V e))))) (Mul (Sub (V t) (V s)) (Sub (V w) (Add (V w) (Mul (V n) (V e))))) (omega arith)

  abbrev near : Point
  near = at u g.step (g.slot b)

  abbrev far : Point
  far = at u g.step (g.slot (b + 1))

  runs_on : RunsWith (seg (place b) (place (b + 1))) (seg u v)
  runs_on =
      let ahead : RunsWith (seg near far) (seg u (at u g.step g.n)) = record {
        n = g.n;
        m = length_of;
        some = g.long;
        long = some_length;
        east = scaled u.x g.step.x g.n (g.slot b) (g.slot (b + 1));
        north = scaled u.y g.step.y g.n (g.slot b) (g.slot (b + 1));
      } in
      subst (λ x. RunsWith (seg x (place (b + 1))) (seg u v)) (sym (g.is b))
      (subst (λ x. RunsWith (seg near x) (seg u v)) (sym (g.is (b + 1)))
      (subst (λ x. RunsWith (seg near far) (seg u x)) g.end ahead))

  runs_back : RunsWith (seg (place (b + 1)) (place b)) (seg v u)
  runs_back =
      let back : RunsWith (seg far near) (seg (at u g.step g.n) u) = record {
        n = g.n;
        m = length_of;
        some = g.long;
        long = some_length;
        east = scaled_back u.x g.step.x g.n (g.slot b) (g.slot (b + 1));
        north = scaled_back u.y g.step.y g.n (g.slot b) (g.slot (b + 1));
      } in
      subst (λ x. RunsWith (seg (place (b + 1)) x) (seg v u)) (sym (g.is b))
      (subst (λ x. RunsWith (seg x near) (seg v u)) (sym (g.is (b + 1)))
      (subst (λ x. RunsWith (seg far near) (seg x u)) g.end back))

-- ---- parts of a leg

abbrev nothing : Seg → ℤ
nothing s = pos 0

module _ (f : Field) (h : IsField f) (w : Walk) (leg : IsLeg f h w) (b : ℕ) where
  abbrev whole : Seg
  whole = seg (point f (from w)) (point f (to w))

  -- a part that is longer than a point
  abbrev Claim : Seg → Type 0
  Claim s = s.a ≢ s.b → RunsWith s whole

  uncut : (forward : Bool) (a c : NodeId) → (let s : Seg = seg (point f a) (point f c) in RunsWith (cond forward s (turned s)) (seg (point f (cond forward a c)) (point f (cond forward c a))))
  uncut true a c = runs_itself (seg (point f a) (point f c))
  uncut false a c = runs_itself (seg (point f c) (point f a))

  in_one : walked_part f w b ≡ (let s : Seg = seg (point f (first w.link)) (point f (second w.link)) in cond w.forward s (turned s)) → Claim (walked_part f w b)
  in_one e apart = subst (λ s. RunsWith s whole) (sym e) (uncut w.forward (first w.link) (second w.link))

  level : Claim (level_part f nothing w b)
  level = by (deepens f w) refl
    where
      by : (d : Bool) → deepens f w ≡ d → Claim (cond d (seg (crossed f w b) (crossed f w (b + 1))) (seg (crossed f w (b + 1)) (crossed f w b)))
      by true d apart = runs_on (point f (from w)) (point f (to w)) (crossed f w) (graded_on f h w leg d) b apart
      by false d apart = runs_back (point f (to w)) (point f (from w)) (crossed f w) (graded_back f h w leg d) b (λ e. apart (sym e))

  -- a part of a leg runs the way of the leg
  pub part_runs : Claim (walked_part f w b)
  part_runs = by (node_band f (first w.link)) (node_band f (second w.link)) refl refl
    where
      by : (x y : Option ℕ) → node_band f (first w.link) ≡ x → node_band f (second w.link) ≡ y → Claim (walked_part f w b)
      by None y e k = in_one (rw e refl)
      by (Some x) None e k = in_one (rw (e, k) refl)
      by (Some x) (Some y) e k = subst Claim (sym (part_is f nothing w x y e k b)) level
