use Rattle.std.proofs.Common.{◌≡◌, take}
use Rattle.face_fill.specs.Views.{faces_view}
use Rattle.chart_compile.proofs.coverage.blocks_of.Given as goal

abbrev pub invariant-loop-face : goal.invariant-loop-face
invariant-loop-face l = l.list.items ≡ take l.face (faces_view l.faces).blocks
