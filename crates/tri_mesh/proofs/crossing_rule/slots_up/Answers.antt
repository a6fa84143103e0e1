use Rattle.std.proofs.Common.{◌≡◌, ◌+◌, ◌-◌, ◌<◌, w32, FitsSigned, sym, ◌∙◌, ap, rules, arith}
use Rattle.std.proofs.lemmas.Int.{to_z-of_z}
use Rattle.std.proofs.lemmas.Grind.{common_steps}
use Rattle.depth_rounding.specs.Bands.{band_of}
use Rattle.depth_rounding.specs.Views.{levels_view}
use Rattle.tri_mesh.specs.Numbers.{count_between, wanted_between, slot_between}
use Rattle.tri_mesh.proofs.Crossings.{slot_next}
use Rattle.tri_mesh.proofs.crossing_rule.slots_up.Goals as goal

pub returns-then-last-first-clause-count : goal.returns-then-last-first-clause-count
returns-then-last-first-clause-count c =
    let low_fits : FitsSigned w32 c.args.rise.low = search rules in
    let high_fits : FitsSigned w32 c.args.rise.high = search rules in
    let first : c.band-first.result ≡ band_of (levels_view c.args.levels.now) c.args.rise.low = simp to_z-of_z at c.band-first.ensures.value in
    let last : c.band-last.result ≡ band_of (levels_view c.args.levels.now) c.args.rise.high = simp to_z-of_z at c.band-last.ensures.value in
    omega (arith, first, last, c.if-last-first.true)

pub returns-clause-count : goal.returns-clause-count
returns-clause-count c =
    let low_fits : FitsSigned w32 c.args.rise.low = search rules in
    let high_fits : FitsSigned w32 c.args.rise.high = search rules in
    let first : c.band-first.result ≡ band_of (levels_view c.args.levels.now) c.args.rise.low = simp to_z-of_z at c.band-first.ensures.value in
    let last : c.band-last.result ≡ band_of (levels_view c.args.levels.now) c.args.rise.high = simp to_z-of_z at c.band-last.ensures.value in
    omega (arith, first, last)

pub loop-i-preserved : goal.loop-i-preserved
loop-i-preserved c =
    let levels = levels_view c.args.levels.now in
    let rise = c.args.rise in
    let i = c.loop-i.i in
    let low_fits : FitsSigned w32 c.args.rise.low = search rules in
    let high_fits : FitsSigned w32 c.args.rise.high = search rules in
    let first : c.band-first.result ≡ band_of (levels_view c.args.levels.now) c.args.rise.low = simp to_z-of_z at c.band-first.ensures.value in
    let last : c.band-last.result ≡ band_of (levels_view c.args.levels.now) c.args.rise.high = simp to_z-of_z at c.band-last.ensures.value in
    let inside : i < count_between levels rise = omega (arith, first, last, c.loop-i-test.true) in
    let at : band_of levels rise.low + (i + 1) ≡ c.band-first.result + i + 1 = omega (arith, first) in
    let want : wanted_between levels rise (band_of levels rise.low + (i + 1)) ≡ c.wanted.result = ap (wanted_between levels rise) at ∙ sym c.wanted.ensures in
    let cap : rise.steps - (c.band-last.result - c.band-first.result - i) ≡ rise.steps - (count_between levels rise - i) = omega (arith, first, last) in
    let step : c.slot_after-slot.result ≡ slot_between levels rise (i + 1) =
    c.slot_after-slot.ensures ∙ sym (slot_next rise.steps (count_between levels rise) (λ k. wanted_between levels rise (band_of levels rise.low + k)) i c.wanted.result c.loop-i.slot (rise.steps - (c.band-last.result - c.band-first.result - i)) inside want (sym c.loop-i.invariant.now) cap) in
    record {
      now = step;
      room = omega (arith, c.slot_after-slot.ensures, c.loop-i-test.true, c.loop-i.invariant.room);
      each = λ k h. grind (arith, common_steps, step, c.loop-i.invariant.each k);
    }
