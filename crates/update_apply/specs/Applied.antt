-- The chart that an update makes of a chart, or the first fault.
use Rattle.std.specs.Prelude.{ℕ, ◌+◌, Bool, true, ◌&&◌, false, eqb, nat_le, cond, List, length, Option, Some, None, Result, Ok, Err}
use Rattle.std.specs.Option.{option_or}
use Rattle.std.specs.Str.{bytes_eq}
use Rattle.chart_model.specs.Whole.{first_lost, first_open}
use Rattle.chart_model.specs.declared.fault.PartFault.{PartFault}
use Rattle.chart_model.specs.declared.records.Header.{Header}
use Rattle.chart_model.specs.declared.records.Parts.{Parts}
use Rattle.cell_writer.specs.Layout.{fits_of}
use Rattle.iso8211_codec.specs.Digits.{number}
use Rattle.update_reader.specs.declared.change.Issue.{Issue}
use Rattle.update_reader.specs.declared.change.Update.{Update}
use Rattle.readings.specs.Readings.{◌>>=◌, need}
use Rattle.update_reader.specs.Faults.{of_part}
use Rattle.update_apply.specs.Making.{parts_after}
use Rattle.update_reader.specs.Reading.{update_reading}
use Rattle.update_reader.specs.declared.fault.UpdateFault.{UpdateFault}
use Rattle.update_reader.specs.declared.fault.UpdateFault.TheVariants as fault

-- ---- the header

-- the number that one to nine digits write
abbrev pub update_number : List ℕ → Option ℕ
update_number text = cond (nat_le 1 (length text) && nat_le (length text) 9) (number text) None

abbrev pub is_after : Option ℕ → Option ℕ → Bool
is_after (Some old) (Some new) = eqb new (old + 1)
is_after _ _ = false

-- an update is the next of a chart: of the same edition, by the same bytes, and with the number after the chart's
abbrev pub is_next : Header → Issue → Bool
is_next h i = bytes_eq i.edtn h.edtn && is_after (update_number h.updn) (update_number i.updn)

abbrev pub with_issue : Issue → Parts → Parts
with_issue i c = record c { header = record c.header { updn = i.updn; uadt = i.uadt; isdt = i.isdt } }

-- ---- what is left

-- the first pointer to nothing, then the first area that doesn't close; a number that stands twice isn't there to be found
abbrev pub first_cause : Parts → Option PartFault
first_cause c = option_or (first_lost c) (first_open c)

abbrev pub none_due : Option PartFault → Result Bool UpdateFault
none_due None = Ok true
none_due (Some e) = Err (of_part e)

-- parts as a chart whose cell can be written
abbrev pub chart_of : Parts → Result Parts UpdateFault
chart_of c = do
  whole ← none_due (first_cause c)
  short ← need (fits_of c) fault.Large
  Ok c

-- the chart after an update that was read
unfoldable pub chart_after : Parts → Update → Result Parts UpdateFault
chart_after base u = do
  next ← need (is_next base.header u.issue) fault.Sequence
  new ← parts_after u.changes (with_issue u.issue base)
  chart_of new

-- the chart that the bytes of an update make of a chart
unfoldable pub apply_of : Parts → List ℕ → Result Parts UpdateFault
apply_of base bytes = do
  update ← update_reading bytes
  chart_after base update
