-- The corners of a triangle turn clockwise.
use Rattle.std.proofs.Common.{◌≡◌, ℕ, ◌+◌, ◌<◌, ℤ, pos, ◌-ℤ◌, ◌*ℤ◌, ◌<ℤ◌, sym, subst, arith}
use Rattle.std.proofs.lemmas.Int.{ints}
use Rattle.mesh_definitions.specs.Field.{Field, IsField, point}
use Rattle.depth_grid.specs.declared.node.NodeId.{NodeId}
use Rattle.plane_geom.specs.Geom.{cross_of}
use Rattle.plane_laws.proofs.Algebra.{ring, Mul, Sub, V, mul_neg}

abbrev pub node : ℕ → ℕ → NodeId
node row col = record { row = row; col = col }

module _ (f : Field) (h : IsField f) (i j : ℕ) (in_rows : i + 1 < f.rows) (in_cols : j + 1 < f.cols) where
  -- a cell's width times its height, southwards
  abbrev size : ℤ
  size = (f.x (j + 1) -ℤ f.x j) *ℤ (f.y (i + 1) -ℤ f.y i)

  below_none : size <ℤ pos 0
  below_none =
      let w = h.eastwards j (j + 1) (omega arith) in_cols in
      let v = h.southwards i (i + 1) (omega arith) in_rows in
      mul_neg (f.x (j + 1) -ℤ f.x j) (f.y (i + 1) -ℤ f.y i) (omega (arith, ints, w)) (omega (arith, ints, v))

  pub upper_turns : cross_of (point f (node i j)) (point f (node i (j + 1))) (point f (node (i + 1) j)) <ℤ pos 0
  upper_turns =
      let e : cross_of (point f (node i j)) (point f (node i (j + 1))) (point f (node (i + 1) j)) ≡ size = ring
      (Sub (Mul (Sub (V (f.x (j + 1))) (V (f.x j))) (Sub (V (f.y (i + 1))) (V (f.y i)))) (Mul (Sub (V (f.y i)) (V (f.y i))) (Sub (V (f.x j)) (V (f.x j)))))
      (Mul (Sub (V (f.x (j + 1))) (V (f.x j))) (Sub (V (f.y (i + 1))) (V (f.y i))))
      (omega arith) in
      subst (λ z. z <ℤ pos 0) (sym e) below_none

  pub lower_turns : cross_of (point f (node (i + 1) j)) (point f (node i (j + 1))) (point f (node (i + 1) (j + 1))) <ℤ pos 0
  lower_turns =
      let e : cross_of (point f (node (i + 1) j)) (point f (node i (j + 1))) (point f (node (i + 1) (j + 1))) ≡ size = ring
      (Sub (Mul (Sub (V (f.x (j + 1))) (V (f.x j))) (Sub (V (f.y (i + 1))) (V (f.y (i + 1))))) (Mul (Sub (V (f.y i)) (V (f.y (i + 1)))) (Sub (V (f.x (j + 1))) (V (f.x j)))))
      (Mul (Sub (V (f.x (j + 1))) (V (f.x j))) (Sub (V (f.y (i + 1))) (V (f.y i))))
      (omega arith) in
      subst (λ z. z <ℤ pos 0) (sym e) below_none
