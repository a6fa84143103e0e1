-- The sides of the legs of a cell.
use Rattle.std.proofs.Common.{◌≡◌, ℕ, zero, suc, ◌+◌, ℤ, pos, negsuc, ◌-ℤ◌, ◌*ℤ◌, ◌≤ℤ◌, ◌<ℤ◌, neg_ℤ, true, false, [], ◌∷◌, refl, ap, ◌∙◌, arith}
use Rattle.std.specs.List.{All}
use Rattle.std.proofs.Math.IntN.{zero-*ℤ, *ℤ-zero}
use Rattle.std.proofs.lemmas.Int.{ints}
use Rattle.std.proofs.lemmas.List.Elements.{All-cons, All-nil}
use Rattle.mesh_definitions.specs.Field.{Field}
use Rattle.mesh_definitions.specs.Ground.{IsInTri}
use Rattle.plane_geom.specs.Geom.{cross_of}
use Rattle.plane_geom.specs.declared.Point.{Point}
use Rattle.plane_geom.specs.declared.Seg.{Seg}
use Rattle.plane_laws.specs.LineLaws.{SideBack}

-- products of two numbers of known sign
pub up_up : (a b : ℤ) → pos 0 ≤ℤ a → pos 0 ≤ℤ b → pos 0 ≤ℤ (a *ℤ b)
up_up (pos m) (pos n) h k = omega (arith, ints)
up_up (pos m) (negsuc n) h k = absurd (omega (arith, ints, k))
up_up (negsuc m) b h k = absurd (omega (arith, ints, h))

pub up_down : (a b : ℤ) → pos 0 ≤ℤ a → b ≤ℤ pos 0 → (a *ℤ b) ≤ℤ pos 0
up_down (pos m) (pos zero) h k = omega (arith, ints, *ℤ-zero (pos m))
up_down (pos m) (pos (suc n)) h k = absurd (omega (arith, ints, k))
up_down (pos m) (negsuc n) h k = omega (arith, ints)
up_down (negsuc m) b h k = absurd (omega (arith, ints, h))

down_up : (a b : ℤ) → a ≤ℤ pos 0 → pos 0 ≤ℤ b → (a *ℤ b) ≤ℤ pos 0
down_up (pos zero) b h k = omega (arith, ints, zero-*ℤ b)
down_up (pos (suc m)) b h k = absurd (omega (arith, ints, h))
down_up (negsuc m) (pos n) h k = omega (arith, ints)
down_up (negsuc m) (negsuc n) h k = absurd (omega (arith, ints, k))

down_down : (a b : ℤ) → a ≤ℤ pos 0 → b ≤ℤ pos 0 → pos 0 ≤ℤ (a *ℤ b)
down_down (pos zero) b h k = omega (arith, ints, zero-*ℤ b)
down_down (pos (suc m)) b h k = absurd (omega (arith, ints, h))
down_down (negsuc m) (pos zero) h k = omega (arith, ints, *ℤ-zero (negsuc m))
down_down (negsuc m) (pos (suc n)) h k = absurd (omega (arith, ints, k))
down_down (negsuc m) (negsuc n) h k = omega (arith, ints)

-- along an axis one of the two products of a cross product is none
pub level : (o a b : Point) → a.y ≡ o.y → cross_of o a b ≡ (a.x -ℤ o.x) *ℤ (b.y -ℤ o.y)
level o a b e =
    let whole = (a.x -ℤ o.x) *ℤ (b.y -ℤ o.y) in
    let flat : (a.y -ℤ o.y) ≡ pos 0 = omega (arith, ints, e) in
    let none = ap (λ z. whole -ℤ z *ℤ (b.x -ℤ o.x)) flat in
    let left = ap (λ z. whole -ℤ z) (zero-*ℤ (b.x -ℤ o.x)) in
    let rest : (whole -ℤ pos 0) ≡ whole = omega (arith, ints) in
    none ∙ (left ∙ rest)

pub upright : (o a b : Point) → a.x ≡ o.x → cross_of o a b ≡ neg_ℤ ((a.y -ℤ o.y) *ℤ (b.x -ℤ o.x))
upright o a b e =
    let whole = (a.y -ℤ o.y) *ℤ (b.x -ℤ o.x) in
    let flat : (a.x -ℤ o.x) ≡ pos 0 = omega (arith, ints, e) in
    let none = ap (λ z. z *ℤ (b.y -ℤ o.y) -ℤ whole) flat in
    let left = ap (λ z. z -ℤ whole) (zero-*ℤ (b.y -ℤ o.y)) in
    let rest : (pos 0 -ℤ whole) ≡ neg_ℤ whole = omega (arith, ints) in
    none ∙ (left ∙ rest)

eastwards : (o a p : Point) → a.y ≡ o.y → o.x ≤ℤ a.x → p.y ≤ℤ o.y → cross_of o a p ≤ℤ pos 0
eastwards o a p e h k = let s = up_down (a.x -ℤ o.x) (p.y -ℤ o.y) (omega (arith, ints, h)) (omega (arith, ints, k)) in omega (arith, ints, level o a p e, s)

westwards : (o a p : Point) → a.y ≡ o.y → a.x ≤ℤ o.x → o.y ≤ℤ p.y → cross_of o a p ≤ℤ pos 0
westwards o a p e h k = let s = down_up (a.x -ℤ o.x) (p.y -ℤ o.y) (omega (arith, ints, h)) (omega (arith, ints, k)) in omega (arith, ints, level o a p e, s)

northwards : (o a p : Point) → a.x ≡ o.x → o.y ≤ℤ a.y → o.x ≤ℤ p.x → cross_of o a p ≤ℤ pos 0
northwards o a p e h k = let s = up_up (a.y -ℤ o.y) (p.x -ℤ o.x) (omega (arith, ints, h)) (omega (arith, ints, k)) in omega (arith, ints, upright o a p e, s)

southwards : (o a p : Point) → a.x ≡ o.x → a.y ≤ℤ o.y → p.x ≤ℤ o.x → cross_of o a p ≤ℤ pos 0
southwards o a p e h k = let s = down_down (a.y -ℤ o.y) (p.x -ℤ o.x) (omega (arith, ints, h)) (omega (arith, ints, k)) in omega (arith, ints, upright o a p e, s)

-- p lies in the closed cell (i, j)
pub record InCell (f : Field) (i j : ℕ) (p : Point) : Type 0 where
  pub west : f.x j ≤ℤ p.x
  pub east : p.x ≤ℤ f.x (j + 1)
  pub north : p.y ≤ℤ f.y i
  pub south : f.y (i + 1) ≤ℤ p.y

module _ (f : Field) (i j : ℕ) (p : Point) (cell : InCell f i j p) where
  abbrev corner : ℕ → ℕ → Point
  corner row col = record { x = f.x col; y = f.y row }

  abbrev side : Point → Point → Seg
  side a b = record { a = a; b = b }

  abbrev Right : Seg → Type 0
  Right s = cross_of s.a s.b p ≤ℤ pos 0

  three : (a b c : Seg) → Right a → Right b → Right c → All Right (a ∷ b ∷ c ∷ [])
  three a b c x y z = All-cons Right a (b ∷ c ∷ []) x (All-cons Right b (c ∷ []) y (All-cons Right c [] z (All-nil Right)))

  -- the triangle of a cell on whose side of the diagonal a point of the cell lies has it
  pub in_upper : SideBack → pos 0 ≤ℤ cross_of (corner (i + 1) j) (corner i (j + 1)) p → IsInTri f (record { row = i; col = j; upper = true }) p
  in_upper back h =
      three (side (corner i j) (corner i (j + 1))) (side (corner i (j + 1)) (corner (i + 1) j)) (side (corner (i + 1) j) (corner i j))
      (eastwards (corner i j) (corner i (j + 1)) p refl (omega (arith, ints, cell.west, cell.east)) cell.north)
      (let e = back (corner (i + 1) j) (corner i (j + 1)) p in omega (arith, ints, e, h))
      (northwards (corner (i + 1) j) (corner i j) p refl (omega (arith, ints, cell.north, cell.south)) cell.west)

  pub in_lower : cross_of (corner (i + 1) j) (corner i (j + 1)) p <ℤ pos 0 → IsInTri f (record { row = i; col = j; upper = false }) p
  in_lower h =
      three (side (corner (i + 1) j) (corner i (j + 1))) (side (corner i (j + 1)) (corner (i + 1) (j + 1))) (side (corner (i + 1) (j + 1)) (corner (i + 1) j))
      (omega (arith, ints, h))
      (southwards (corner i (j + 1)) (corner (i + 1) (j + 1)) p refl (omega (arith, ints, cell.north, cell.south)) cell.east)
      (westwards (corner (i + 1) (j + 1)) (corner (i + 1) j) p refl (omega (arith, ints, cell.west, cell.east)) cell.south)
