-- Where steps begin and end.
use Rattle.std.specs.Prelude.{ℤ, pos, ◌-ℤ◌, cond}
use Rattle.mesh_definitions.specs.Edges.{same_point}
use Rattle.mesh_definitions.specs.Pieces.{Mesh, walked}
use Rattle.mesh_definitions.specs.declared.Step.{Step}
use Rattle.plane_geom.specs.declared.Point.{Point}

-- 1 at the point p, 0 at others
abbrev pub here : Point → Point → ℤ
here p x = cond (same_point p x) (pos 1) (pos 0)

-- 1 for a step that begins at p, less 1 for one that ends there
abbrev pub leaving : Mesh → Point → Step → ℤ
leaving m p s = here p (walked m s).a -ℤ here p (walked m s).b
