-- What a modification makes of a record: first its place and numbers are tested, then whether a chart may have the record
-- that comes of it. A record keeps its number, and has the version that the modification gives.
use Rattle.std.specs.Prelude.{ℕ, ◌+◌, not, List, [], ◌∷◌, length, Result, Ok}
use Rattle.std.specs.Option.{ok_or}
use Rattle.chart_model.specs.Whole.{is_made}
use Rattle.chart_model.specs.declared.records.Connected.{Connected}
use Rattle.chart_model.specs.declared.records.Edge.{Edge}
use Rattle.chart_model.specs.declared.records.Feature.{Feature}
use Rattle.chart_model.specs.declared.records.Isolated.{Isolated}
use Rattle.chart_model.specs.declared.records.Shape.{Shape}
use Rattle.chart_model.specs.declared.records.Shape.TheVariants.{One, Soundings}
use Rattle.chart_model.specs.declared.records.Sounding.{Sounding}
use Rattle.plane_geom.specs.declared.Point.{Point}
use Rattle.readings.specs.Readings.{◌>>=◌, need}
use Rattle.record_edits.specs.Attributes.{attributes_after}
use Rattle.record_edits.specs.Splices.{can_change, items_after}
use Rattle.record_values.specs.Fields.{the_one}
use Rattle.s57_codes.specs.Catalogue.{rcnm_connected_node, rcnm_edge, rcnm_feature, rcnm_isolated_node}
use Rattle.update_reader.specs.Values.{is_empty}
use Rattle.update_reader.specs.declared.change.Edit.{Edit}
use Rattle.update_reader.specs.declared.fault.UpdateFault.{UpdateFault}
use Rattle.update_reader.specs.declared.fault.UpdateFault.TheVariants as fault

-- ---- nodes and edges

-- how many points and soundings are given; an edit that was read gives none of one kind
abbrev pub given_count : Edit → ℕ
given_count e = length e.points + length e.soundings

-- the one point of the node with this RCNM and number
abbrev pub point_after : ℕ → ℕ → Edit → Point → Result Point UpdateFault
point_after rcnm rcid e p = do
  placed ← need (can_change e.splice 1 (given_count e)) (fault.Index rcnm rcid)
  alike ← need (is_empty e.soundings) (fault.Shape rcnm rcid)
  ok_or (the_one (items_after e.splice e.points (p ∷ []))) (fault.Shape rcnm rcid)

-- the soundings of the isolated node with this number: at least one
abbrev pub soundings_after : ℕ → Edit → List Sounding → Result (List Sounding) UpdateFault
soundings_after rcid e list = do
  placed ← need (can_change e.splice (length list) (given_count e)) (fault.Index rcnm_isolated_node rcid)
  alike ← need (is_empty e.points) (fault.Shape rcnm_isolated_node rcid)
  some ← need (not (is_empty (items_after e.splice e.soundings list))) (fault.Shape rcnm_isolated_node rcid)
  Ok (items_after e.splice e.soundings list)

-- what stands at an isolated node stays of its kind
abbrev pub shape_after : ℕ → Edit → Shape → Result Shape UpdateFault
shape_after rcid e (One p) = do
  point ← point_after rcnm_isolated_node rcid e p
  Ok (One point)
shape_after rcid e (Soundings list) = do
  soundings ← soundings_after rcid e list
  Ok (Soundings soundings)

abbrev pub isolated_after : ℕ → Edit → Isolated → Result Isolated UpdateFault
isolated_after rver e n = do
  shape ← shape_after n.rcid e n.shape
  Ok (record { rcid = n.rcid; rver = rver; shape = shape })

abbrev pub connected_after : ℕ → Edit → Connected → Result Connected UpdateFault
connected_after rver e n = do
  point ← point_after rcnm_connected_node n.rcid e n.at
  Ok (record { rcid = n.rcid; rver = rver; at = point })

-- an edge has any points between its nodes, and keeps these
abbrev pub edge_after : ℕ → Edit → Edge → Result Edge UpdateFault
edge_after rver e k = do
  placed ← need (can_change e.splice (length k.inner) (given_count e)) (fault.Index rcnm_edge k.rcid)
  alike ← need (is_empty e.soundings) (fault.Shape rcnm_edge k.rcid)
  Ok (record k { rver = rver; inner = items_after e.splice e.points k.inner })

-- ---- features

-- a feature with its attributes and pointers changed; all else of it stays
abbrev pub feature_with_changes : ℕ → Edit → Feature → Feature
feature_with_changes rver e f = record f { rver = rver; attributes = attributes_after e.attributes f.attributes; pointers = items_after e.splice e.pointers f.pointers }

-- it has to point at what its PRIM is made of
abbrev pub feature_after : ℕ → Edit → Feature → Result Feature UpdateFault
feature_after rver e f = do
  placed ← need (can_change e.splice (length f.pointers) (length e.pointers)) (fault.Index rcnm_feature f.rcid)
  made ← need (is_made (feature_with_changes rver e f)) (fault.Shape rcnm_feature f.rcid)
  Ok (feature_with_changes rver e f)
