use Rattle.std.proofs.Common.{arith, subst, rules, ap, ◌∙◌, sym, ◌++◌, ◌∷◌, [], get_or, w32}
use Rattle.std.proofs.lemmas.Int.{to_z-of_z}
use Rattle.std.proofs.lemmas.List.{take_all}
use Rattle.std.proofs.lemmas.List.Elements.{All-push}
use Rattle.std.specs.Int.RustNames.{FitsSigned}
use Rattle.std.specs.List.{All}
use Rattle.chart_query.proofs.Heights.{ends_more}
use Rattle.chart_query.proofs.Toggling.{no_side}
use Rattle.chart_query.specs.Strips.{HasEnds}
use Rattle.chart_query.specs.declared.sides.Side.{Side}
use Rattle.chart_query.proofs.strips.ends_of.Goals as goal

pub loop-side-preserved : goal.loop-side-preserved
loop-side-preserved c =
    let s : Side = get_or c.args.sides.now c.loop-side.side-index no_side in
    let a : FitsSigned w32 s.segment.a.y = search rules in
    let b : FitsSigned w32 s.segment.b.y = search rules in
    let one = c.in_ok-push.ensures.items ∙ ap (λ t. c.loop-side.heights.items ++ t ∷ []) (to_z-of_z w32 s.segment.a.y a) in
    let two = c.in_ok-push-2.ensures.items ∙ ap (λ t. c.push.new.self.items ++ t ∷ []) (to_z-of_z w32 s.segment.b.y b) in
    record {
      ends = ends_more c.args.sides.now c.loop-side.side-index no_side c.loop-side.heights.items c.push.new.self.items c.push-in-loop-side.new.self.items c.loop-side-test.true c.loop-side.invariant.ends one two;
      fit = subst (All (FitsSigned w32)) (sym two) (All-push (FitsSigned w32) c.push.new.self.items s.segment.b.y (subst (All (FitsSigned w32)) (sym one) (All-push (FitsSigned w32) c.loop-side.heights.items s.segment.a.y c.loop-side.invariant.fit a)) b);
    }

pub returns-clause-ends : goal.returns-clause-ends
returns-clause-ends c = subst (All (HasEnds c.loop-side.heights.items)) (take_all c.loop-side.side-index c.args.sides.now (omega arith)) c.loop-side.invariant.ends
