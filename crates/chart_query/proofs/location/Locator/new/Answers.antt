use Rattle.std.proofs.Common.{◌≡◌, ◌+◌, ◌∙◌, length, arith}
use Rattle.chart_query.proofs.Entering.{all_below}
use Rattle.chart_query.proofs.location.Locator.new.Goals as goal

pub of-requires : goal.of-requires
of-requires c =
    let last : c.len.result ≡ length c.in_ok-heights.heights.items = omega (arith, c.len.ensures, c.in_ok-heights.heights.ok) in
    let limit : c.in_ok-split.split.heights + c.len-2.result + 1 ≡ c.in_ok-split.split.heights + length c.in_ok-heights.heights.items + 1 = omega (arith, c.len-2.ensures, c.in_ok-heights.heights.ok) in
    all_below c.in_ok-heights.heights.items c.deref-3.result.now c.in_ok-split.split.bases.items c.in_ok-split.split.heights _ _ c.deref-2.result.now c.deref-4.result.now
    c.deref-3.ensures.value last c.in_ok-split.ensures.split limit (c.deref-4.ensures.value ∙ c.in_ok-entries.ensures)
