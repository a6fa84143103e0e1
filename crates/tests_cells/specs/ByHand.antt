-- A chart made by hand: a square of 32,000 units from 0 0, a coverage and a depth area in it, and a sounding.
use Rattle.std.specs.Prelude.{codes, pos, List, [], ◌∷◌}
use Rattle.chart_model.specs.declared.records.Connected.{Connected}
use Rattle.chart_model.specs.declared.records.Edge.{Edge}
use Rattle.chart_model.specs.declared.records.Feature.{Feature}
use Rattle.chart_model.specs.declared.records.Header.{Header}
use Rattle.chart_model.specs.declared.records.Isolated.{Isolated}
use Rattle.chart_model.specs.declared.records.Parts.{Parts}
use Rattle.chart_model.specs.declared.records.Pointer.{Pointer}
use Rattle.chart_model.specs.declared.records.Shape.TheVariants.{Soundings}

abbrev pub header : Header
header = record { expp = 1; intu = 5; dsnm = codes "XX5ROW02.000"; edtn = codes "1"; updn = codes "0"; uadt = codes "20240131"; isdt = codes "20240131"; sted = codes "03.1"; prsp = 1; psdn = []; pred = codes "2.0"; prof = 1; agen = 7; comt = []; aall = 0; nall = 0; hdat = 2; vdat = 3; sdat = 23; cscl = 12000; huni = 1; puni = 1; note = [] }

-- ten metres deep at the north-western corner
abbrev pub isolated : List Isolated
isolated = record { rcid = 1; rver = 1; shape = Soundings (record { at = record { x = pos 0; y = pos 32000 }; depth = pos 100 } ∷ []) } ∷ []

abbrev pub connected : List Connected
connected = record { rcid = 1; rver = 1; at = record { x = pos 0; y = pos 0 } } ∷ []

-- clockwise from the south-western corner
abbrev pub edges : List Edge
edges = record { rcid = 1; rver = 1; first = 1; last = 1; inner = record { x = pos 0; y = pos 32000 } ∷ record { x = pos 32000; y = pos 32000 } ∷ record { x = pos 32000; y = pos 0 } ∷ [] } ∷ []

-- the square's border as an outer one that the data limit truncates
abbrev pub border : List Pointer
border = record { rcnm = 130; rcid = 1; ornt = 1; usag = 3; mask = 255 } ∷ []

abbrev pub coverage : Feature
coverage = record { rcid = 1; rver = 1; prim = 3; grup = 2; objl = 302; agen = 7; fidn = 1; fids = 1; attributes = record { code = 18; text = codes "1" } ∷ []; pointers = border }

abbrev pub depth_area : Feature
depth_area = record { rcid = 2; rver = 1; prim = 3; grup = 1; objl = 42; agen = 7; fidn = 2; fids = 1; attributes = record { code = 87; text = codes "10" } ∷ record { code = 88; text = codes "10.1" } ∷ []; pointers = border }

abbrev pub sounding : Feature
sounding = record { rcid = 3; rver = 1; prim = 1; grup = 2; objl = 129; agen = 7; fidn = 3; fids = 1; attributes = []; pointers = record { rcnm = 110; rcid = 1; ornt = 255; usag = 255; mask = 255 } ∷ [] }

unfoldable pub square : Parts
square = record { header = header; isolated = isolated; connected = connected; edges = edges; features = coverage ∷ depth_area ∷ sounding ∷ [] }
