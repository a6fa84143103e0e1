-- What blocks of the code show.
use Rattle.tri_mesh.specs.Cells.{BlocksView, view_of}
use Rattle.tri_mesh.specs.declared.blocks.Blocks.{Blocks}

abbrev pub blocks_view : Blocks → BlocksView
blocks_view b = view_of b.rows b.cols b.rects.items b.numbers.items
