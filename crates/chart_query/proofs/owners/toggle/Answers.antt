use Rattle.std.proofs.Common.{◌≡◌, ◌∙◌, subst}
use Rattle.std.specs.List.{insert, remove}
use Rattle.std.specs.Result.{MatchResult}
use Rattle.chart_query.proofs.Toggling.{searched_for}
use Rattle.chart_query.specs.Owners.{toggled}
use Rattle.chart_query.proofs.owners.toggle.Goals as goal

pub returns-in-Ok : goal.returns-in-Ok
returns-in-Ok c =
    let xs = c.args.owners.now.items in
    let k = c.args.owner in
    c.remove.ensures.items ∙ subst (λ r. MatchResult r (λ i. remove xs i ≡ toggled k xs) (λ i. insert xs i k ≡ toggled k xs)) c.in-Ok.is (searched_for k xs _ _ c.deref.ensures.value c.requires c.binary_search.ensures.position)

pub returns-in_ok-insert-in-Err : goal.returns-in_ok-insert-in-Err
returns-in_ok-insert-in-Err c =
    let xs = c.args.owners.now.items in
    let k = c.args.owner in
    c.in_ok-insert-in-Err.ensures.items ∙ subst (λ r. MatchResult r (λ i. remove xs i ≡ toggled k xs) (λ i. insert xs i k ≡ toggled k xs)) c.in-Err.is (searched_for k xs _ _ c.deref.ensures.value c.requires c.binary_search.ensures.position)
