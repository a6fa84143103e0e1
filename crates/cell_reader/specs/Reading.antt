-- The chart that the bytes of a file stand for, or the first fault.
use Rattle.std.specs.Prelude.{◌≡◌, ℕ, ◌+◌, ◌*◌, ◌≤◌, Bool, eqb, List, length, Option, Some, None, Result, Ok, Err}
use Rattle.std.specs.Option.{ok_or}
use Rattle.chart_model.specs.Whole.{first_fault}
use Rattle.chart_model.specs.declared.fault.PartFault.{PartFault}
use Rattle.chart_model.specs.declared.records.Header.{Header}
use Rattle.chart_model.specs.declared.records.Parts.{Parts}
use Rattle.iso8211_codec.specs.Reading.{first_record}
use Rattle.iso8211_codec.specs.Walk.{answers}
use Rattle.iso8211_codec.specs.declared.fault.CodecFault.{CodecFault}
use Rattle.s57_records.specs.Formats.{Value}
use Rattle.s57_records.specs.declared.dssi.Dssi.{Dssi}
use Rattle.cell_reader.specs.declared.fault.CellFault.{CellFault}
use Rattle.cell_reader.specs.declared.fault.CellFault.TheVariants as fault
use Rattle.cell_reader.specs.Headers.{DataSet, header_of}
use Rattle.readings.specs.Readings.{◌>>=◌, need}
use Rattle.cell_reader.specs.Faults.{of_codec, of_part}
use Rattle.cell_reader.specs.Records.{ReadRecords, nothing, contents_after}

-- how many bytes the first record takes and what follows it, with its faults as those of a cell
abbrev pub start : Result (ℕ × List ℕ) CodecFault → Result (ℕ × List ℕ) CellFault
start (Ok x) = Ok x
start (Err e) = Err (of_codec e)

-- the header and the counts, where both records that give them are there
abbrev pub header_and_counts : Option DataSet → Option (List Value) → Option (Header × Dssi)
header_and_counts (Some set) (Some units) = go (header_of set.identity set.structure units)
  where
    go : Option Header → Option (Header × Dssi)
    go None = None
    go (Some header) = Some (header, set.structure)
header_and_counts _ _ = None

abbrev pub parts_of : Header → ReadRecords → Parts
parts_of header d = record { header = header; isolated = d.isolated; connected = d.connected; edges = d.edges; features = d.features }

-- the parts, or the fault that keeps them from being a chart
abbrev pub parts_or_fault : Option PartFault → Parts → Result Parts CellFault
parts_or_fault None c = Ok c
parts_or_fault (Some e) c = Err (of_part e)

-- a number of records that is stated has to be the one that is found; the fault says which number it is, from 1 to 4
abbrev pub need_count : ℕ → ℕ → ℕ → Result Bool CellFault
need_count which stated found = need (eqb stated found) (fault.Count which stated found)

-- the numbers of isolated nodes, connected nodes, edges and features
unfoldable pub need_counts : Dssi → Parts → Result Parts CellFault
need_counts s c = do
  isolated ← need_count 1 s.noin (length c.isolated)
  connected ← need_count 2 s.nocn (length c.connected)
  edges ← need_count 3 s.noed (length c.edges)
  features ← need_count 4 (s.nomr + s.nocr + s.nogr + s.nolr) (length c.features)
  Ok c

-- the chart that the contents of all records of a file of so many bytes are
unfoldable pub chart_of : ℕ → ReadRecords → Result Parts CellFault
chart_of size d = do
  head ← ok_or (header_and_counts d.data_set d.units) (fault.Kind size)
  whole ← parts_or_fault (first_fault (parts_of head.0 d)) (parts_of head.0 d)
  need_counts head.1 whole

-- the chart of a file
unfoldable pub reading : List ℕ → Result Parts CellFault
reading bytes = do
  begin ← start (first_record bytes)
  all ← contents_after nothing (answers begin.0 begin.1)
  chart_of (length bytes) all

-- the bytes stand for the chart
abbrev pub StandsFor : List ℕ → Parts → Type 0
StandsFor bytes c = reading bytes ≡ Ok c

-- each record has 24 bytes at least
pub record IsWithin (size : ℕ) (c : Parts) : Type 0 where
  pub isolated : 24 * length c.isolated ≤ size
  pub connected : 24 * length c.connected ≤ size
  pub edges : 24 * length c.edges ≤ size
  pub features : 24 * length c.features ≤ size
