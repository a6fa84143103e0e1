use Rattle.std.proofs.Common.{◌≡◌, subst, rules, arith}
use Rattle.std.proofs.lemmas.Grind.{common_steps}
use Rattle.tri_mesh.specs.Cells.{Fills}
use Rattle.tri_mesh.proofs.Numbering.{fills_none, fills_more}
use Rattle.tri_mesh.proofs.cutting.fill.Goals as goal

pub loop-at-init : goal.loop-at-init
loop-at-init c = record { len = search rules; fills = fills_none c.args.numbers.now c.args.start c.args.number }

pub loop-at-preserved : goal.loop-at-preserved
loop-at-preserved c = record {
  len = grind (arith, common_steps);
  fills = fills_more c.args.numbers.now c.loop-at.numbers c.args.start c.loop-at.at c.args.number (omega arith) (omega arith) c.loop-at.invariant.fills;
}

pub returns-clause-fills : goal.returns-clause-fills
returns-clause-fills c =
    let e : c.loop-at.at ≡ c.args.end = omega arith in
    subst (λ at. Fills c.args.numbers.now c.args.start at c.args.number c.loop-at.numbers) e c.loop-at.invariant.fills
