-- The faults of an update, and those of the codec and of a chart as such.
use Rattle.std.specs.Prelude.{Bool, true, false, Result}
use Rattle.chart_model.specs.declared.fault.PartFault.{PartFault}
use Rattle.chart_model.specs.declared.fault.PartFault.TheVariants as part
use Rattle.iso8211_codec.specs.declared.fault.CodecFault.{CodecFault}
use Rattle.iso8211_codec.specs.declared.fault.CodecFault.TheVariants as codec
use Rattle.readings.specs.Readings.{GivesUnless}
use Rattle.update_reader.specs.declared.fault.UpdateFault.{UpdateFault}
use Rattle.update_reader.specs.declared.fault.UpdateFault.TheVariants as fault

-- a fault of the codec as one of the update
abbrev pub of_codec : CodecFault → UpdateFault
of_codec (codec.Short at) = fault.Short at
of_codec (codec.Leader at) = fault.Leader at
of_codec (codec.Directory at) = fault.Directory at
of_codec (codec.Field at) = fault.Field at

-- A pointer to nothing or an open area as a fault of the update. No number stands twice where changes were made, since a
-- record that is inserted wasn't there before.
abbrev pub of_part : PartFault → UpdateFault
of_part (part.Twice rcnm rcid) = fault.There rcnm rcid
of_part (part.Lost rcnm rcid) = fault.Lost rcnm rcid
of_part (part.Unclosed rcid) = fault.Unclosed rcid
of_part part.NoMemory = fault.NoMemory

-- want of memory, which no file gives
abbrev pub is_memory : UpdateFault → Bool
is_memory fault.NoMemory = true
is_memory e = false

-- what a function returned, seen by view, is what the definition gives, unless memory ran out
abbrev pub Gives : {X Y : Type 0} → (X → Y) → Result X UpdateFault → Result Y UpdateFault → Type 0
Gives view result read = GivesUnless is_memory view result read
