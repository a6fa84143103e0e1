-- Points by their coordinates, meshes whose sub-segments are long, and the link along the north of a cell.
use Rattle.std.proofs.Common.{◌≡◌, ◌≢◌, ℕ, All, ap₂, arith}
use Rattle.mesh_definitions.specs.Mesh.{links}
use Rattle.mesh_definitions.specs.Pieces.{Mesh}
use Rattle.mesh_definitions.specs.declared.Rect.{Rect}
use Rattle.mesh_definitions.specs.declared.Sub.{Sub}
use Rattle.mesh_definitions.specs.declared.Way.TheVariants.{Across}
use Rattle.mesh_laws.proofs.Links.{across_in, link}
use Rattle.mesh_laws.proofs.Triangles.{IsCell}
use Rattle.plane_geom.specs.declared.Point.{Point}
use Rattle.plane_laws.proofs.Members.{In}

pub point_same : (p q : Point) → p.x ≡ q.x → p.y ≡ q.y → p ≡ q
point_same p q e g = ap₂ (λ i j. let k : Point = record { x = i; y = j } in k) e g

-- each sub-segment joins two different points
pub record AreLong (m : Mesh) : Type 0 where
  pub long : All (λ (u : Sub). (m.ends u).a ≢ (m.ends u).b) m.subs

-- the link along the north of a cell
pub in_links : (r : Rect) (i j : ℕ) → IsCell r i j → In (links r) (link Across i j)
in_links r i j c = let south = c.south in across_in r i j c.north (omega (arith, south)) c.west c.east
