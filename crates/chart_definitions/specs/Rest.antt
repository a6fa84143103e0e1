-- The rest of a chart of a sheet: its header, and the numbers, the order and the marks of its records.
use Rattle.std.specs.Prelude.{codes, ◌≡◌, ℕ, [], ◌++◌, length, All}
use Rattle.std.specs.Fmt.{decimal}
use Rattle.std.specs.List.{range_with_len}
use Rattle.chart_definitions.specs.Meaning.{of_code}
use Rattle.chart_model.specs.Areas.{areas}
use Rattle.chart_model.specs.Numbers.{isolated_numbers, connected_numbers, edge_numbers, feature_numbers}
use Rattle.chart_model.specs.declared.records.Connected.{Connected}
use Rattle.chart_model.specs.declared.records.Edge.{Edge}
use Rattle.chart_model.specs.declared.records.Feature.{Feature}
use Rattle.chart_model.specs.declared.records.Header.{Header}
use Rattle.chart_model.specs.declared.records.Isolated.{Isolated}
use Rattle.chart_model.specs.declared.records.Parts.{Parts}
use Rattle.rule_sheet.specs.Values.{SheetView}
use Rattle.s57_codes.specs.Catalogue.{objl_depcnt, objl_m_covr, objl_m_qual, objl_soundg, prim_area, prim_line, prim_point}

-- the header of a new cell (S-57 Edition 3.1 and its product specification 2.0 for electronic navigational charts): its name is the sheet's with the ending of a base cell, no update is applied, texts are ASCII, the horizontal datum is WGS 84, and heights and depths are in metres
pub record IsHeader (s : SheetView) (h : Header) : Type 0 where
  pub purpose : (h.expp ≡ 1) × (h.intu ≡ s.usage)
  pub name : h.dsnm ≡ s.name ++ codes ".000"
  pub edition : (h.edtn ≡ decimal s.edition) × (h.updn ≡ codes "0")
  pub dates : (h.uadt ≡ s.issued) × (h.isdt ≡ s.issued)
  pub standard : (h.sted ≡ codes "03.1") × (h.prsp ≡ 1) × (h.psdn ≡ []) × (h.pred ≡ codes "2.0") × (h.prof ≡ 1)
  pub agency : (h.agen ≡ s.agency) × (h.comt ≡ [])
  pub lexical : (h.aall ≡ 0) × (h.nall ≡ 0)
  pub datums : (h.hdat ≡ 2) × (h.vdat ≡ s.vertical_datum) × (h.sdat ≡ s.sounding_datum)
  pub scale : (h.cscl ≡ s.scale) × (h.huni ≡ 1) × (h.puni ≡ 1) × (h.note ≡ [])

-- the version of each feature, and its name among all producers' features: the agency, and its own number
pub record IsFeatureOf (s : SheetView) (f : Feature) : Type 0 where
  pub version : f.rver ≡ 1
  pub agency : f.agen ≡ s.agency
  pub name : (f.fidn ≡ f.rcid) × (f.fids ≡ 1)

-- a feature of group 2 with this PRIM
pub record IsBeside (prim : ℕ) (f : Feature) : Type 0 where
  pub prim_is : f.prim ≡ prim
  pub group : f.grup ≡ 2

-- The header; features in the order of their kinds, and no others; numbers that rise from 1 in each list of records; versions, groups and names.
pub record HasTheRest (s : SheetView) (c : Parts) : Type 0 where
  pub header : IsHeader s c.header
  pub order : c.features ≡ of_code objl_m_covr c ++ (of_code objl_m_qual c ++ (areas c ++ (of_code objl_depcnt c ++ of_code objl_soundg c)))
  pub features : All (IsFeatureOf s) c.features
  pub covers : All (IsBeside prim_area) (of_code objl_m_covr c ++ of_code objl_m_qual c)
  pub contours : All (IsBeside prim_line) (of_code objl_depcnt c)
  pub soundings : All (λ (f : Feature). IsBeside prim_point f × (f.attributes ≡ [])) (of_code objl_soundg c)
  pub isolated_versions : All (λ (n : Isolated). n.rver ≡ 1) c.isolated
  pub connected_versions : All (λ (k : Connected). k.rver ≡ 1) c.connected
  pub edge_versions : All (λ (e : Edge). e.rver ≡ 1) c.edges
  pub isolated_count : isolated_numbers c ≡ range_with_len 1 (length c.isolated)
  pub connected_count : connected_numbers c ≡ range_with_len 1 (length c.connected)
  pub edge_count : edge_numbers c ≡ range_with_len 1 (length c.edges)
  pub feature_count : feature_numbers c ≡ range_with_len 1 (length c.features)
