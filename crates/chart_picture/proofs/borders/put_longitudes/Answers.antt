use Rattle.std.proofs.Common.{◌∙◌, ◌++◌, ap}
use Rattle.chart_picture.proofs.Appending.{four}
use Rattle.chart_picture.specs.Borders.{longitude_text, longitudes_text}
use Rattle.chart_picture.proofs.borders.put_longitudes.Goals as goal
use Rattle.plane_geom.specs.declared.Point.{Point}

pub returns : goal.returns
unfolding longitudes_text
returns c =
    four _ _ _ _ _ _ _ _ _ c.in_ok-put_west_start.ensures
    (c.in_ok-put_longitude.ensures ∙ ap (λ (p : Point). c.put_west_start.new.out.items ++ longitude_text p.x) c.north_west.ensures)
    c.in_ok-put_east_start.ensures
    (c.in_ok-put_longitude-2.ensures ∙ ap (λ (p : Point). c.put_east_start.new.out.items ++ longitude_text p.x) c.south_east.ensures)
