use Rattle.std.proofs.Common.{◌≡◌, ◌<◌, ◌||◌, ◌↔◌, IsTrue, not, nat_eq, arith, ◌∙◌, refl}
use Rattle.exact_num.proofs.Shifts.{moved_part, nothing_left, rest_tells}
use Rattle.exact_num.proofs.wide.Wide.by.Goals as goal
use Rattle.exact_num.proofs.wide.Wide.by.Goals.{then-self-ne0, else-self-ne0, then-left, else-left}

pub returns-then-places : goal.returns-then-places
returns-then-places c =
    let tells : IsTrue c.if-self-ne0.result ↔ (0 < c.args.self) =
    elim c.if-self-ne0.branch [
      | then-self-ne0 w ↦ (λ _. omega (arith, c.self.view_is), λ _. w.result-is ∙ (rest_tells c.self.inside.high).1 (omega arith))
      | else-self-ne0 w ↦ rw w.result-is (λ h. omega (arith, c.self.view_is, (rest_tells c.self.inside.low).0 h), λ h. (rest_tells c.self.inside.low).1 (omega (arith, c.self.view_is)))
    ] in
    rw c.zero.ensures (nothing_left c.args.self c.self.inside.high c.self.inside.low c.args.places c.if-self-ne0.result c.self.view_is c.self.invariant.0 c.self.invariant.1 c.if-places.true tells)

pub returns : goal.returns
returns c =
    let more : c.if-left.result ≡ (c.by_half-whole.result.1 || not (nat_eq c.self.inside.low 0)) =
    elim c.if-left.branch [ then-left w ↦ rw (w.result-is, w.if-left.true) refl | else-left w ↦ rw (w.result-is, w.if-left.false) refl ] in
    moved_part c.args.self c.self.inside.high c.self.inside.low c.by_half-whole.result.0 c.args.places c.by_half-whole.result.1 c.if-left.result c.self.view_is c.self.invariant.1 (omega arith) c.by_half-whole.ensures more
