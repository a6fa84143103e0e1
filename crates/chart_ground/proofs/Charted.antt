-- Where the ground has depths some node has a charted depth.
use Rattle.std.proofs.Common.{◌≡◌, ℕ, ℤ, ◌+◌, Bool, true, false, Option, Some, None, is_some, List, refl}
use Rattle.std.proofs.lemmas.Bool.{and_parts, false≢true}
use Rattle.mesh_definitions.specs.Field.{field_of}
use Rattle.mesh_definitions.specs.Mesh.{surveyed}
use Rattle.mesh_definitions.specs.declared.Tri.{Tri}
use Rattle.shoal_buffer.specs.Charted.{ChartedView, StandsIn, c_at}

some_value : (d : Option ℤ) → is_some d ≡ true → (x : ℤ) × (d ≡ Some x)
some_value None h = absurd (false≢true h)
some_value (Some x) h = (x, refl)

module _ (v : ChartedView) (levels : List ℤ) where
  stands : (row col : ℕ) → is_some (c_at v row col) ≡ true → (x : ℤ) × StandsIn v.charted x
  stands row col h = let s = some_value (c_at v row col) h in (s.0, (_, s.1))

  -- a surveyed triangle has a corner with a charted depth
  corner_stands : (row col : ℕ) (upper : Bool) → surveyed (field_of v levels) (record { row = row; col = col; upper = upper }) ≡ true → (x : ℤ) × StandsIn v.charted x
  corner_stands row col true h = stands row col (and_parts (is_some (c_at v row col)) _ h).0
  corner_stands row col false h = stands (row + 1) col (and_parts (is_some (c_at v (row + 1) col)) _ h).0

  pub some_charted : (t : Tri) → surveyed (field_of v levels) t ≡ true → (x : ℤ) × StandsIn v.charted x
  some_charted t h = corner_stands t.row t.col t.upper h
