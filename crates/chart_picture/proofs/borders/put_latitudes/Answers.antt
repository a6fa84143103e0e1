use Rattle.std.proofs.Common.{◌∙◌, ◌++◌, ap}
use Rattle.chart_picture.proofs.Appending.{four}
use Rattle.chart_picture.specs.Borders.{latitude_text, latitudes_text}
use Rattle.chart_picture.proofs.borders.put_latitudes.Goals as goal
use Rattle.plane_geom.specs.declared.Point.{Point}

pub returns : goal.returns
unfolding latitudes_text
returns c =
    four _ _ _ _ _ _ _ _ _ c.in_ok-put_north_start.ensures
    (c.in_ok-put_latitude.ensures ∙ ap (λ (p : Point). c.put_north_start.new.out.items ++ latitude_text p.y) c.north_west.ensures)
    c.in_ok-put_south_start.ensures
    (c.in_ok-put_latitude-2.ensures ∙ ap (λ (p : Point). c.put_south_start.new.out.items ++ latitude_text p.y) c.south_east.ensures)
