-- What is written is read again.
use Rattle.std.specs.Prelude.{IsTrue}
use Rattle.chart_model.specs.Whole.{IsWhole}
use Rattle.chart_model.specs.declared.records.Parts.{Parts}
use Rattle.cell_reader.specs.Reading.{StandsFor}
use Rattle.cell_writer.specs.Layout.{fits_of, layout}
use Rattle.cell_writer.specs.Sized.{IsSized}

-- the cell that a chart is written as stands for that chart
abbrev pub ReadsAgain : Type 0
ReadsAgain = (c : Parts) → IsWhole c → IsSized c → IsTrue (fits_of c) → StandsFor (layout c) c
