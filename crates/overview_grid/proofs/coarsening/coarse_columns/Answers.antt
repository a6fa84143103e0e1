use Rattle.std.proofs.Common.{◌≡◌, ◌∙◌, ◌≤◌, to_z, of_z, w32, FitsSigned, sym, subst, rules}
use Rattle.std.proofs.lemmas.Int.{to_z-of_z}
use Rattle.overview_grid.proofs.PlaceLemmas.{places_more, longer}
use Rattle.overview_grid.proofs.coarsening.coarse_columns.Goals as goal

pub loop-k-preserved : goal.loop-k-preserved
loop-k-preserved c =
    let now = c.loop-k.xs.items in
    let more = c.push_reserved.new.self.items in
    let x = c.x.result in
    let fits : FitsSigned w32 x = search rules in
    let same : to_z w32 (of_z w32 x) ≡ x = to_z-of_z w32 x fits in
    let i = c.loop-k.invariant in
    record {
      full = longer now more c.loop-k.k (to_z w32 (of_z w32 x)) i.full c.push_reserved.ensures.items;
      each = places_more c.args.grid.now.xs.items now more c.args.factor c.loop-k.k (to_z w32 (of_z w32 x)) i.full (same ∙ c.x.ensures) c.push_reserved.ensures.items i.each;
      room = subst (λ n. c.coarse_count-count.result ≤ n) (sym c.push_reserved.ensures.capacity) i.room;
    }
