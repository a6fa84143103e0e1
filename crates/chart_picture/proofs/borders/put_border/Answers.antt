use Rattle.std.proofs.Common.{◌∙◌, ◌++◌, ap}
use Rattle.chart_picture.proofs.Appending.{four}
use Rattle.chart_picture.proofs.borders.put_border.Goals as goal
use Rattle.chart_picture.specs.Borders.{border_text, scale_text}

pub returns : goal.returns
unfolding border_text
returns c = four _ _ _ _ _ _ _ _ _ c.in_ok-put_edge.ensures c.in_ok-put_latitudes.ensures c.in_ok-put_longitudes.ensures (c.in_ok-put_scale.ensures ∙ ap (λ b. c.put_longitudes.new.out.items ++ scale_text c.args.f b) c.bar_length.ensures.value)
