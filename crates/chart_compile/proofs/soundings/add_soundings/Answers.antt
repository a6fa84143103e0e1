use Rattle.std.proofs.Common.{◌∙◌, ◌∷◌, [], arith}
use Rattle.chart_compile.proofs.Placing.{adds_length, adds_placed}
use Rattle.built_parts.specs.Contours.{sounding_content}
use Rattle.chart_compile.proofs.soundings.add_soundings.Goals as goal

pub loop-k-preserved : goal.loop-k-preserved
loop-k-preserved c =
    let more = adds_length (sounding_content c.loop-k.k ∷ []) _ _ c.in_ok-add_sounding.ensures.added in
    record {
      added = adds_placed sounding_content c.loop-k.k _ _ _ c.loop-k.invariant.added c.in_ok-add_sounding.ensures.added;
      few = omega (arith, more, c.loop-k.invariant.few);
      same = c.in_ok-add_sounding.ensures.same ∙ c.loop-k.invariant.same;
    }
