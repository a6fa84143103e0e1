use Rattle.std.proofs.Common.{◌≡◌, sym, ap, ◌∙◌, subst, not, true, false, FitsSigned, to_z, of_z, w64, rules, Bool, refl}
use Rattle.std.proofs.lemmas.Bool.{false≢true}
use Rattle.std.proofs.lemmas.Int.{to_z-of_z}
use Rattle.grid_reader.specs.Millimetres.{TellsNoData}
use Rattle.grid_reader.proofs.Thousandths.{never_missing, not_missing, missing}
use Rattle.grid_reader.proofs.millimetres.is_missing.Goals as goal

pub returns-in_default : goal.returns-in_default
returns-in_default c = λ mark n tells h. never_missing mark n c.args.value (subst (TellsNoData mark) c.in_default.is tells) h

pub returns-then-rounded_down-floor : goal.returns-then-rounded_down-floor
returns-then-rounded_down-floor c = λ mark n tells h.
    not_missing mark n c.args.value c.in-Some.floor (subst (TellsNoData mark) c.in-Some.is tells) h
    (λ e. c.if-rounded_down-floor.true (ap (of_z w64) (c.rounded_down.ensures.value n h ∙ e)))

-- what isn't left is false
none_left : (b : Bool) → not b ≡ true → b ≡ false
none_left false h = refl
none_left true h = absurd (false≢true h)

pub returns-then-not-value : goal.returns-then-not-value
returns-then-not-value c = λ mark n tells h.
    let fits : FitsSigned w64 c.rounded_down.result = search rules in
    let floor_fits : FitsSigned w64 c.in-Some.floor.millimetres = search rules in
    let same : c.rounded_down.result ≡ c.in-Some.floor.millimetres = sym (to_z-of_z w64 c.rounded_down.result fits) ∙ ap (to_z w64) c.if-rounded_down-floor.false ∙ to_z-of_z w64 c.in-Some.floor.millimetres floor_fits in
    missing mark n c.args.value c.in-Some.floor (subst (TellsNoData mark) c.in-Some.is tells) h (sym (c.rounded_down.ensures.value n h) ∙ same) c.if-floor.true (none_left c.args.value.left c.if-not-value.true)
