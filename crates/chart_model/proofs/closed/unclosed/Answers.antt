use Rattle.std.proofs.Common.{◌∙◌, sym, ap, length, rules}
use Rattle.std.proofs.lemmas.List.{length-map}
use Rattle.chart_model.proofs.Parity.{unmarked}
use Rattle.chart_model.specs.Numbers.{connected_numbers}
use Rattle.chart_model.specs.declared.records.Connected.{Connected}
use Rattle.chart_model.proofs.closed.unclosed.Goals as goal

pub first_unclosed-requires-clause-even : goal.first_unclosed-requires-clause-even
first_unclosed-requires-clause-even c = c.deref_mut.ensures.value ∙ c.in_ok-odd.ensures.items_if_clones_equal (search rules) ∙ unmarked (connected_numbers c.args.parts.now) _ (length-map c.args.parts.now.connected (λ (k : Connected). k.rcid) ∙ sym (ap length c.as_slice.ensures))
