use Rattle.std.proofs.Common.{true, ◌≡◌, ◌∙◌, pos, sym, of_z, arith}
use Rattle.std.specs.Int.{w128}
use Rattle.std.proofs.lemmas.Int.{ints}
use Rattle.plane_geom.proofs.on_segment.Goals as goal

pub returns : goal.returns
returns c = (
  λ t. record { line = sym c.cross.ensures ∙ (let e : of_z w128 c.cross.result ≡ 0 = grind arith in omega (arith, ints)); wide = sym c.is_wide.ensures ∙ cc; high = sym c.is_high.ensures ∙ cc },
  λ h. let z : c.cross.result ≡ pos 0 = c.cross.ensures ∙ h.line in let e : of_z w128 c.cross.result ≡ 0 = omega (arith, ints) in rw e (λ i. true),
)
