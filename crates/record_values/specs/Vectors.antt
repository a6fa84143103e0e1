-- What vector records stand for: nodes and edges (S-57 Edition 3.1, Part 3, 7.7).
use Rattle.std.specs.Prelude.{ℕ, Bool, true, ◌&&◌, ◌||◌, eqb, cond, List, [], ◌∷◌, Option, Some, None}
use Rattle.chart_model.specs.declared.records.Edge.{Edge}
use Rattle.chart_model.specs.declared.records.Connected.{Connected}
use Rattle.chart_model.specs.declared.records.Isolated.{Isolated}
use Rattle.chart_model.specs.declared.records.Shape.{Shape}
use Rattle.chart_model.specs.declared.records.Shape.TheVariants.{One, Soundings}
use Rattle.chart_model.specs.declared.records.Sounding.{Sounding}
use Rattle.iso8211_codec.specs.Reading.{Seen}
use Rattle.plane_geom.specs.declared.Point.{Point}
use Rattle.readings.specs.Finds.{◌>>=◌}
use Rattle.s57_codes.specs.Catalogue.{rcnm_connected_node, rcnm_edge, rcnm_isolated_node, tag_sg2d, tag_sg3d, tag_vrpt, topi_beginning, topi_end}
use Rattle.s57_records.specs.declared.pointer.Vrpt.{Vrpt}
use Rattle.s57_records.specs.declared.vrid.Vrid.{Vrid}
use Rattle.record_values.specs.Fields.{are_whole}

-- a body of VRID that doesn't begin with an RCNM of a record that isn't read
abbrev pub is_known : List ℕ → Bool
is_known [] = true
is_known (rcnm ∷ bytes) = eqb rcnm rcnm_isolated_node || (eqb rcnm rcnm_connected_node || eqb rcnm rcnm_edge)

-- whether the fields that repeat a group are whole groups
abbrev pub has_whole_groups : List Seen → Bool
has_whole_groups fields = are_whole 9 tag_vrpt fields && (are_whole 8 tag_sg2d fields && are_whole 12 tag_sg3d fields)

-- an isolated node has one point and no soundings, or soundings and no point
abbrev pub shape_of : List Point → List Sounding → Option Shape
shape_of (p ∷ []) [] = Some (One p)
shape_of [] (s ∷ ss) = Some (Soundings (s ∷ ss))
shape_of _ _ = None

-- a connected node has one point
abbrev pub place_of : List Point → List Sounding → Option Point
place_of (p ∷ []) [] = Some p
place_of _ _ = None

-- an edge has two pointers to connected nodes, one to its first and one to its last, as their TOPI says
abbrev pub are_first_and_last : Vrpt → Vrpt → Bool
are_first_and_last a b = eqb a.topi topi_beginning && eqb b.topi topi_end

abbrev pub ends_of : List Vrpt → List Sounding → Option (ℕ × ℕ)
ends_of (a ∷ b ∷ []) [] =
    cond (eqb a.rcnm rcnm_connected_node && eqb b.rcnm rcnm_connected_node)
    (cond (are_first_and_last a b) (Some (a.rcid, b.rcid)) (cond (are_first_and_last b a) (Some (b.rcid, a.rcid)) None)) None
ends_of _ _ = None

abbrev pub isolated_of : Vrid → List Point → List Sounding → Option Isolated
isolated_of v points soundings = do
  shape ← shape_of points soundings
  Some (record { rcid = v.rcid; rver = v.rver; shape = shape })

abbrev pub connected_of : Vrid → List Point → List Sounding → Option Connected
connected_of v points soundings = do
  at ← place_of points soundings
  Some (record { rcid = v.rcid; rver = v.rver; at = at })

abbrev pub edge_of : Vrid → List Vrpt → List Point → List Sounding → Option Edge
edge_of v ends points soundings = do
  nodes ← ends_of ends soundings
  Some (record { rcid = v.rcid; rver = v.rver; first = nodes.0; last = nodes.1; inner = points })
