use Rattle.std.proofs.Common.{◌≡◌, ⊎_elim, inl, inr, ap₂}
use Rattle.depth_grid.specs.declared.node.NodeId.{NodeId}
use Rattle.tri_mesh.proofs.Divisors.{wide}
use Rattle.tri_mesh.proofs.crossing_rule.steps_of_line.Goals as goal

pub returns-clause-several : goal.returns-clause-several
returns-clause-several c =
    wide c.across.result c.down.result c.greatest_divisor.result c.greatest_divisor.ensures.gcd c.across.ensures.whole c.down.ensures.whole
    (⊎_elim (λ col. ⊎_elim (λ row. absurd (c.requires.apart (same c.args.a c.args.b row col))) inr c.down.ensures.some) inl c.across.ensures.some)
  where
    same : (a b : NodeId) → a.row ≡ b.row → a.col ≡ b.col → a ≡ b
    same a b row col = ap₂ (λ i j. let n : NodeId = record { row = i; col = j } in n) row col
