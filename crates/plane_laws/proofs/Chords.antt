-- The sides of a chord, which joins two legs of a corner.
use Rattle.std.proofs.Common.{◌≡◌, ℤ, ◌-ℤ◌, ◌*ℤ◌, ap, ap₂, ◌∙◌, arith}
use Rattle.plane_geom.specs.Geom.{cross_of}
use Rattle.plane_geom.specs.declared.Point.{Point}
use Rattle.plane_laws.specs.Outlines.{Vector, turning, at}
use Rattle.plane_laws.proofs.Algebra.{ring, value, Poly, V, Add, Sub, Mul}

-- a point as two expressions
pub record Place : Type 0 where
  pub px : Poly
  pub py : Poly

abbrev pub at_poly : Point → Vector → ℤ → Place
at_poly w e t = record { px = Add (V w.x) (Mul (V t) (V e.x)); py = Add (V w.y) (Mul (V t) (V e.y)) }

abbrev pub cross_poly : Place → Place → Place → Poly
cross_poly a b c = Sub (Mul (Sub b.px a.px) (Sub c.py a.py)) (Mul (Sub b.py a.py) (Sub c.px a.px))

abbrev pub turning_poly : Vector → Vector → Poly
turning_poly e g = Sub (Mul (V e.x) (V g.y)) (Mul (V e.y) (V g.x))

pub side_on_first_leg : (w : Point) (e g : Vector) (f r t : ℤ) → cross_of (at w e f) (at w g r) (at w e t) ≡ ((f -ℤ t) *ℤ r) *ℤ turning e g
side_on_first_leg w e g f r t = ring (cross_poly (at_poly w e f) (at_poly w g r) (at_poly w e t)) (Mul (Mul (Sub (V f) (V t)) (V r)) (turning_poly e g)) (omega arith)

pub side_on_second_leg : (w : Point) (e g : Vector) (f r t : ℤ) → cross_of (at w e f) (at w g r) (at w g t) ≡ ((r -ℤ t) *ℤ f) *ℤ turning e g
side_on_second_leg w e g f r t = ring (cross_poly (at_poly w e f) (at_poly w g r) (at_poly w g t)) (Mul (Mul (Sub (V r) (V t)) (V f)) (turning_poly e g)) (omega arith)

-- at a point d times as near, seen from the corner
side_scaled : (e g : Vector) (x y f r d t : ℤ) → d *ℤ x ≡ t *ℤ e.x → d *ℤ y ≡ t *ℤ e.y → d *ℤ ((r *ℤ g.x -ℤ f *ℤ e.x) *ℤ (y -ℤ f *ℤ e.y) -ℤ (r *ℤ g.y -ℤ f *ℤ e.y) *ℤ (x -ℤ f *ℤ e.x)) ≡ ((f *ℤ d -ℤ t) *ℤ r) *ℤ turning e g
side_scaled e g x y f r d t hx hy =
    let rx = Sub (Mul (V r) (V g.x)) (Mul (V f) (V e.x)) in
    let ry = Sub (Mul (V r) (V g.y)) (Mul (V f) (V e.y)) in
    let whole : Poly = Mul (V d) (Sub (Mul rx (Sub (V y) (Mul (V f) (V e.y)))) (Mul ry (Sub (V x) (Mul (V f) (V e.x))))) in
    let apart : Poly = Sub (Sub (Mul rx (Mul (V d) (V y))) (Mul ry (Mul (V d) (V x)))) (Mul (V d) (Sub (Mul rx (Mul (V f) (V e.y))) (Mul ry (Mul (V f) (V e.x))))) in
    let put : Poly = Sub (Sub (Mul rx (Mul (V t) (V e.y))) (Mul ry (Mul (V t) (V e.x)))) (Mul (V d) (Sub (Mul rx (Mul (V f) (V e.y))) (Mul ry (Mul (V f) (V e.x))))) in
    let last : Poly = Mul (Mul (Sub (Mul (V f) (V d)) (V t)) (V r)) (turning_poly e g) in
    ring whole apart (omega arith)
    ∙ ap₂ (λ b a. (value rx *ℤ b -ℤ value ry *ℤ a) -ℤ d *ℤ (value rx *ℤ (f *ℤ e.y) -ℤ value ry *ℤ (f *ℤ e.x))) hy hx
    ∙ ring put last (omega arith)

pub side_at_point : (w : Point) (e g : Vector) (p : Point) (f r d t : ℤ) → d *ℤ (p.x -ℤ w.x) ≡ t *ℤ e.x → d *ℤ (p.y -ℤ w.y) ≡ t *ℤ e.y → d *ℤ cross_of (at w e f) (at w g r) p ≡ ((f *ℤ d -ℤ t) *ℤ r) *ℤ turning e g
side_at_point w e g p f r d t hx hy =
    let rx = Sub (Mul (V r) (V g.x)) (Mul (V f) (V e.x)) in
    let ry = Sub (Mul (V r) (V g.y)) (Mul (V f) (V e.y)) in
    let whole : Poly = cross_poly (at_poly w e f) (at_poly w g r) (record { px = V p.x; py = V p.y }) in
    let near : Poly = Sub (Mul rx (Sub (Sub (V p.y) (V w.y)) (Mul (V f) (V e.y)))) (Mul ry (Sub (Sub (V p.x) (V w.x)) (Mul (V f) (V e.x)))) in
    ap (λ z. d *ℤ z) (ring whole near (omega arith)) ∙ side_scaled e g (p.x -ℤ w.x) (p.y -ℤ w.y) f r d t hx hy
