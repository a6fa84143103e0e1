-- Positions of the code.
use Rattle.grid_reader.specs.declared.shape.Places.{Places}
use Rattle.grid_reader.specs.Shape.{Lines}

abbrev pub places_view : Places → Lines
places_view p = record { xs = p.xs.items; ys = p.ys.items }
