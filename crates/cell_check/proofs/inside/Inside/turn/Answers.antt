use Rattle.std.proofs.Common.{◌-◌, ◌<◌, ◌≤◌, ◌∙◌, length, ap, sym, arith}
use Rattle.cell_check.proofs.Odds.{odds_same, odds_turn, turn_any}
use Rattle.chart_model.specs.Marks.{turned_at}
use Rattle.cell_check.proofs.inside.Inside.turn.Goals as goal

pub returns-then-owner-areas-clause-inside : goal.returns-then-owner-areas-clause-inside
returns-then-owner-areas-clause-inside c = λ line lines e h.
    let n = length c.args.self.now.areas in
    let m = length c.args.self.now.covers in
    let low : c.args.owner < n = omega (arith, c.len-areas.ensures, c.if-owner-areas.true) in
    record {
      areas = c.turn.ensures ∙ ap (λ t. turned_at t c.args.owner) h.areas ∙ sym (odds_turn 0 n c.args.owner line lines (omega (arith, e)) low);
      covers = h.covers ∙ sym (odds_same n m line lines (λ k l f. omega (arith, e, f, low)));
    }

pub returns-else-owner-areas-clause-inside : goal.returns-else-owner-areas-clause-inside
returns-else-owner-areas-clause-inside c = λ line lines e h.
    let n = length c.args.self.now.areas in
    let m = length c.args.self.now.covers in
    let high : n ≤ c.args.owner = omega (arith, c.len-areas.ensures, c.if-owner-areas.false) in
    record {
      areas = h.areas ∙ sym (odds_same 0 n line lines (λ k l f. omega (arith, e, f, high)));
      covers = c.turn-else-owner-areas.ensures ∙ ap (λ t. turned_at t (c.args.owner - c.len-areas.result)) h.covers ∙ turn_any n m (c.args.owner - c.len-areas.result) line lines (omega (arith, e, high, c.len-areas.ensures));
    }
