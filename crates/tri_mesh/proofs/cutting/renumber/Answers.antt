use Rattle.std.proofs.Common.{◌≡◌, ℕ, ◌+◌, ◌-◌, ◌∙◌, subst, arith}
use Rattle.tri_mesh.specs.Cells.{Renumbers}
use Rattle.tri_mesh.proofs.Numbering.{front, renumbers_more}
use Rattle.tri_mesh.proofs.cutting.renumber.Goals as goal

pub loop-row-preserved : goal.loop-row-preserved
loop-row-preserved c =
    let r = c.args.rect in
    let n : ℕ = c.loop-row.row - r.row in
    let at : c.loop-row.row ≡ r.row + n = omega (arith, c.loop-row.auto.row) in
    let next : n + 1 ≡ c.loop-row.row + 1 - r.row = omega (arith, c.loop-row.auto.row) in
    record {
      len = c.fill.ensures.len ∙ c.loop-row.invariant.len;
      cells = subst (λ k. Renumbers c.args.numbers.now c.args.cols (front r k) c.args.number c.fill.new.numbers) next
          (renumbers_more r c.args.cols n c.requires.east c.loop-row.row c.args.number c.args.numbers.now c.loop-row.numbers c.fill.new.numbers at c.loop-row.invariant.cells c.fill.ensures.fills);
    }
