-- The lines of a cell.
use Rattle.std.specs.Prelude.{codes, ℕ, List, [], ◌++◌, length, decimal}
use Rattle.cell_reader.specs.declared.fault.CellFault.{CellFault}
use Rattle.cell_reader.specs.declared.fault.CellFault.TheVariants as fault
use Rattle.chart_cli.specs.declared.cell_lines.Question.{Question}
use Rattle.chart_cli.specs.declared.cell_lines.Question.TheVariants as question
use Rattle.chart_model.specs.Tally.{tally_of}
use Rattle.chart_model.specs.declared.counts.Tally.{Tally}
use Rattle.chart_model.specs.declared.records.Header.{Header}
use Rattle.chart_model.specs.declared.records.Parts.{Parts}
use Rattle.chart_picture.specs.Picture.{picture_text}
use Rattle.chart_query.specs.Lines.{query_text}
use Rattle.route_check.specs.Lines.{route_text}

-- ---- what a cell holds

abbrev pub name_line : Header → List ℕ
name_line h = codes "name " ++ (h.dsnm ++ (codes " edition " ++ (h.edtn ++ (codes " scale " ++ (decimal h.cscl ++ codes "\n")))))

abbrev pub records_line : Parts → List ℕ
records_line c =
    codes "nodes " ++ (decimal (length c.isolated) ++ (codes " " ++ (decimal (length c.connected)
    ++ (codes " edges " ++ (decimal (length c.edges) ++ (codes " features " ++ (decimal (length c.features) ++ codes "\n")))))))

abbrev pub tally_line : Tally → List ℕ
tally_line t =
    codes "areas " ++ (decimal t.areas ++ (codes " contours " ++ (decimal t.contours ++ (codes " soundings " ++ (decimal t.soundings ++ codes "\n")))))

unfoldable pub info_text : Parts → List ℕ
info_text c = name_line c.header ++ (records_line c ++ tally_line (tally_of c))

-- ---- questions

-- the lines that answer a question about a chart: what it holds, its picture, what there is at a point, or whether a leg is clear at a depth
abbrev pub answer_to : Question → Parts → List ℕ
answer_to question.Holdings = info_text
answer_to question.Picture = picture_text
answer_to (question.At p) = query_text p
answer_to (question.Along leg depth) = route_text depth leg

-- ---- refusals

-- the place of a fault
abbrev pub cell_at_text : List ℕ → ℕ → List ℕ
cell_at_text number at = codes "refused cell " ++ (number ++ (codes " at " ++ (decimal at ++ codes "\n")))

-- the name of a record
abbrev pub cell_name_text : List ℕ → ℕ → ℕ → List ℕ
cell_name_text number rcnm rcid = codes "refused cell " ++ (number ++ (codes " " ++ (decimal rcnm ++ (codes " " ++ (decimal rcid ++ codes "\n")))))

abbrev pub cell_count_text : ℕ → ℕ → ℕ → List ℕ
cell_count_text which stated found = codes "refused cell 10 " ++ (decimal which ++ (codes " " ++ (decimal stated ++ (codes " " ++ (decimal found ++ codes "\n")))))

-- the line of a refusal: its number, and its place, record or count
abbrev pub cell_refusal : CellFault → List ℕ
cell_refusal (fault.Short at) = cell_at_text (codes "1") at
cell_refusal (fault.Leader at) = cell_at_text (codes "2") at
cell_refusal (fault.Directory at) = cell_at_text (codes "3") at
cell_refusal (fault.Field at) = cell_at_text (codes "4") at
cell_refusal (fault.Kind at) = cell_at_text (codes "5") at
cell_refusal (fault.Value at) = cell_at_text (codes "6") at
cell_refusal (fault.Lost rcnm rcid) = cell_name_text (codes "7") rcnm rcid
cell_refusal (fault.Twice rcnm rcid) = cell_name_text (codes "8") rcnm rcid
cell_refusal (fault.Unclosed rcid) = codes "refused cell 9 " ++ (decimal rcid ++ codes "\n")
cell_refusal (fault.Count which stated found) = cell_count_text which stated found
cell_refusal fault.NoMemory = []
