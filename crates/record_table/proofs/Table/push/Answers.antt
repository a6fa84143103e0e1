use Rattle.std.proofs.Common.{◌≡◌, ◌∙◌, ap, cond, length}
use Rattle.std.specs.Prelude.{Some, None, find}
use Rattle.std.specs.BTreeMap.{is_at}
use Rattle.std.specs.Ordering.{nat_cmp}
use Rattle.record_table.specs.Records.{is_numbered}
use Rattle.record_table.specs.Slots.{records_in, place_of}
use Rattle.record_table.proofs.Leading.{leads_nowhere, leads_pushed}
use Rattle.record_table.proofs.Written.{records_pushed}
use Rattle.record_table.proofs.Table.push.Goals as goal

pub invariant_of-self-in-Ok : goal.invariant_of-self-in-Ok
invariant_of-self-in-Ok g c =
    let number = g.X.Numbered.number in
    let n = number c.args.item in
    let slots = c.self.inside.slots.items in
    let place = place_of c.self.inside.places in
    let absent : find (is_numbered number n) (records_in slots) ≡ None = ap (find (is_numbered number n)) c.self.view_is ∙ c.requires in
    let none = leads_nowhere number slots place c.self.invariant n absent in
    let last : c.len-place.result ≡ length slots = c.len-place.ensures ∙ c.self.inside.slots.ok.0 in
    rw c.in_ok-push.ensures.items
    (leads_pushed number slots place c.self.invariant (place_of c.insert.new.self) c.args.item none
    (λ q. c.in-Ok.ensures.updates.0 q ∙ ap (λ m. cond (is_at (nat_cmp m) q) (Some c.len-place.result) (place q)) c.number-number.ensures ∙ ap (λ p. cond (is_at (nat_cmp n) q) (Some p) (place q)) last))

pub returns-clause-ok : goal.returns-clause-ok
returns-clause-ok g c = rw (← c.self.view_is) (ap records_in c.in_ok-push.ensures.items ∙ records_pushed c.self.inside.slots.items c.args.item)
