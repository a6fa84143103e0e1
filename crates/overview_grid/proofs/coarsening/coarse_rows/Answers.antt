use Rattle.std.proofs.Common.{◌≡◌, ◌∙◌, ◌≤◌, to_z, of_z, w32, FitsSigned, sym, subst, rules}
use Rattle.std.proofs.lemmas.Int.{to_z-of_z}
use Rattle.overview_grid.proofs.PlaceLemmas.{places_more, longer}
use Rattle.overview_grid.proofs.coarsening.coarse_rows.Goals as goal

pub loop-k-preserved : goal.loop-k-preserved
loop-k-preserved c =
    let now = c.loop-k.ys.items in
    let more = c.push_reserved.new.self.items in
    let y = c.y.result in
    let fits : FitsSigned w32 y = search rules in
    let same : to_z w32 (of_z w32 y) ≡ y = to_z-of_z w32 y fits in
    let i = c.loop-k.invariant in
    record {
      full = longer now more c.loop-k.k (to_z w32 (of_z w32 y)) i.full c.push_reserved.ensures.items;
      each = places_more c.args.grid.now.ys.items now more c.args.factor c.loop-k.k (to_z w32 (of_z w32 y)) i.full (same ∙ c.y.ensures) c.push_reserved.ensures.items i.each;
      room = subst (λ n. c.coarse_count-count.result ≤ n) (sym c.push_reserved.ensures.capacity) i.room;
    }
