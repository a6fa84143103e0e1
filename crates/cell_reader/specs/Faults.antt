-- The faults of a cell, and those of the codec and of the chart as such.
use Rattle.std.specs.Prelude.{Bool, true, false, Result}
use Rattle.chart_model.specs.declared.fault.PartFault.{PartFault}
use Rattle.chart_model.specs.declared.fault.PartFault.TheVariants as part
use Rattle.iso8211_codec.specs.declared.fault.CodecFault.{CodecFault}
use Rattle.iso8211_codec.specs.declared.fault.CodecFault.TheVariants as codec
use Rattle.readings.specs.Readings.{GivesUnless}
use Rattle.cell_reader.specs.declared.fault.CellFault.{CellFault}
use Rattle.cell_reader.specs.declared.fault.CellFault.TheVariants as fault

-- a fault of the codec as one of the cell
abbrev pub of_codec : CodecFault → CellFault
of_codec (codec.Short at) = fault.Short at
of_codec (codec.Leader at) = fault.Leader at
of_codec (codec.Directory at) = fault.Directory at
of_codec (codec.Field at) = fault.Field at

-- a number that stands twice, a pointer to nothing or an open area, as a fault of the cell
abbrev pub of_part : PartFault → CellFault
of_part (part.Twice rcnm rcid) = fault.Twice rcnm rcid
of_part (part.Lost rcnm rcid) = fault.Lost rcnm rcid
of_part (part.Unclosed rcid) = fault.Unclosed rcid
of_part part.NoMemory = fault.NoMemory

-- want of memory, which no file gives
abbrev pub is_memory : CellFault → Bool
is_memory fault.NoMemory = true
is_memory e = false

-- what a function returned, seen by view, is what the definition gives, unless memory ran out
abbrev pub Gives : {X Y : Type 0} → (X → Y) → Result X CellFault → Result Y CellFault → Type 0
Gives view result read = GivesUnless is_memory view result read
