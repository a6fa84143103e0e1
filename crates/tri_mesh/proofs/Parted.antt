-- The chord of a corner parts it from the other two.
use Rattle.std.proofs.Common.{◌≡◌, zero, suc, ℤ, pos, negsuc, ◌-ℤ◌, ◌*ℤ◌, ◌<ℤ◌, sym, ap₂, ◌∙◌, arith}
use Rattle.std.proofs.lemmas.Int.{ints, by_lt_z}
use Rattle.plane_geom.specs.Geom.{cross_of}
use Rattle.plane_geom.specs.declared.Point.{Point}
use Rattle.plane_laws.specs.Outlines.{at, turning}
use Rattle.plane_laws.specs.PieceLaws.{ChordSideOnFirstLeg, ChordSideOnSecondLeg}
use Rattle.tri_mesh.proofs.Signs.{up_up, up_down}
use Rattle.tri_mesh.proofs.Steps.{Cut, at_none}

-- products of numbers that aren't 0
pub pp : (a b : ℤ) → pos 0 <ℤ a → pos 0 <ℤ b → pos 0 <ℤ (a *ℤ b)
pp (pos zero) b h k = absurd (omega (arith, ints, h))
pp (pos (suc m)) (pos zero) h k = absurd (omega (arith, ints, k))
pp (pos (suc m)) (pos (suc n)) h k = omega (arith, ints)
pp (pos (suc m)) (negsuc n) h k = absurd (omega (arith, ints, k))
pp (negsuc m) b h k = absurd (omega (arith, ints, h))

pub pn : (a b : ℤ) → pos 0 <ℤ a → b <ℤ pos 0 → (a *ℤ b) <ℤ pos 0
pn (pos zero) b h k = absurd (omega (arith, ints, h))
pn (pos (suc m)) (pos n) h k = absurd (omega (arith, ints, k))
pn (pos (suc m)) (negsuc n) h k = omega (arith, ints)
pn (negsuc m) b h k = absurd (omega (arith, ints, h))

pub np : (a b : ℤ) → a <ℤ pos 0 → pos 0 <ℤ b → (a *ℤ b) <ℤ pos 0
np (pos m) b h k = absurd (omega (arith, ints, h))
np (negsuc m) (pos zero) h k = absurd (omega (arith, ints, k))
np (negsuc m) (pos (suc n)) h k = omega (arith, ints)
np (negsuc m) (negsuc n) h k = absurd (omega (arith, ints, k))

pub nn : (a b : ℤ) → a <ℤ pos 0 → b <ℤ pos 0 → pos 0 <ℤ (a *ℤ b)
nn (pos m) b h k = absurd (omega (arith, ints, h))
nn (negsuc m) (pos n) h k = absurd (omega (arith, ints, k))
nn (negsuc m) (negsuc n) h k = omega (arith, ints)

-- the line from c to d has w on its right and x and y on its left
pub record Parts (w x y c d : Point) : Type 0 where
  pub corner : cross_of c d w <ℤ pos 0
  pub first : pos 0 <ℤ cross_of c d x
  pub second : pos 0 <ℤ cross_of c d y

-- or the other way round
pub record PartsBack (w x y c d : Point) : Type 0 where
  pub corner : pos 0 <ℤ cross_of c d w
  pub first : cross_of c d x <ℤ pos 0
  pub second : cross_of c d y <ℤ pos 0

module _ (first_leg : ChordSideOnFirstLeg) (second_leg : ChordSideOnSecondLeg) (w x y c d : Point) (a : Cut w x c) (b : Cut w y d) where
  abbrev turn : ℤ
  turn = turning a.step b.step

  chord : cross_of c d ≡ cross_of (at w a.step a.s) (at w b.step b.s)
  chord = ap₂ cross_of a.is b.is

  at_corner : cross_of c d w ≡ ((a.s -ℤ pos 0) *ℤ b.s) *ℤ turn
  at_corner = ap₂ (λ g p. g p) chord (sym (at_none w a.step)) ∙ first_leg w a.step b.step a.s b.s (pos 0)

  at_first : cross_of c d x ≡ ((a.s -ℤ a.n) *ℤ b.s) *ℤ turn
  at_first = ap₂ (λ g p. g p) chord (sym a.end) ∙ first_leg w a.step b.step a.s b.s a.n

  at_second : cross_of c d y ≡ ((b.s -ℤ b.n) *ℤ a.s) *ℤ turn
  at_second = ap₂ (λ g p. g p) chord (sym b.end) ∙ second_leg w a.step b.step a.s b.s b.n

  whole : cross_of x y w ≡ ((a.n -ℤ pos 0) *ℤ b.n) *ℤ turn
  whole = ap₂ (λ g p. g p) (ap₂ cross_of (sym a.end) (sym b.end)) (sym (at_none w a.step)) ∙ first_leg w a.step b.step a.n b.n (pos 0)

  wide : pos 0 <ℤ ((a.n -ℤ pos 0) *ℤ b.n)
  wide = pp (a.n -ℤ pos 0) b.n (omega (arith, ints, a.some, a.less)) (omega (arith, ints, b.some, b.less))

  near : pos 0 <ℤ ((a.s -ℤ pos 0) *ℤ b.s)
  near = pp (a.s -ℤ pos 0) b.s (omega (arith, ints, a.some)) b.some

  far_first : ((a.s -ℤ a.n) *ℤ b.s) <ℤ pos 0
  far_first = np (a.s -ℤ a.n) b.s (omega (arith, ints, a.less)) b.some

  far_second : ((b.s -ℤ b.n) *ℤ a.s) <ℤ pos 0
  far_second = np (b.s -ℤ b.n) a.s (omega (arith, ints, b.less)) a.some

  turns_right : cross_of x y w <ℤ pos 0 → turn <ℤ pos 0
  turns_right h = by_lt_z turn (pos 0) (λ l. l) (λ l. absurd (omega (arith, ints, h, whole, up_up ((a.n -ℤ pos 0) *ℤ b.n) turn (omega (arith, ints, wide)) l)))

  turns_left : pos 0 <ℤ cross_of x y w → pos 0 <ℤ turn
  turns_left h = by_lt_z (pos 0) turn (λ l. l) (λ l. absurd (omega (arith, ints, h, whole, up_down ((a.n -ℤ pos 0) *ℤ b.n) turn (omega (arith, ints, wide)) l)))

  pub parts : cross_of x y w <ℤ pos 0 → Parts w x y c d
  parts h = let t = turns_right h in record {
    corner = omega (arith, ints, at_corner, pn ((a.s -ℤ pos 0) *ℤ b.s) turn near t);
    first = omega (arith, ints, at_first, nn ((a.s -ℤ a.n) *ℤ b.s) turn far_first t);
    second = omega (arith, ints, at_second, nn ((b.s -ℤ b.n) *ℤ a.s) turn far_second t);
  }

  pub parts_back : pos 0 <ℤ cross_of x y w → PartsBack w x y c d
  parts_back h = let t = turns_left h in record {
    corner = omega (arith, ints, at_corner, pp ((a.s -ℤ pos 0) *ℤ b.s) turn near t);
    first = omega (arith, ints, at_first, np ((a.s -ℤ a.n) *ℤ b.s) turn far_first t);
    second = omega (arith, ints, at_second, np ((b.s -ℤ b.n) *ℤ a.s) turn far_second t);
  }
