-- Charts whose values fit the fields that they are written to: numbers in the range of their bytes, texts without 0x1F.
use Rattle.std.specs.Prelude.{All}
use Rattle.chart_model.specs.declared.records.Attribute.{Attribute}
use Rattle.chart_model.specs.declared.records.Connected.{Connected}
use Rattle.chart_model.specs.declared.records.Edge.{Edge}
use Rattle.chart_model.specs.declared.records.Feature.{Feature}
use Rattle.chart_model.specs.declared.records.Isolated.{Isolated}
use Rattle.chart_model.specs.declared.records.Parts.{Parts}
use Rattle.chart_model.specs.declared.records.Pointer.{Pointer}
use Rattle.chart_model.specs.declared.records.Shape.{Shape}
use Rattle.chart_model.specs.declared.records.Shape.TheVariants.{One, Soundings}
use Rattle.chart_model.specs.declared.records.Sounding.{Sounding}
use Rattle.plane_geom.specs.declared.Point.{Point}
use Rattle.s57_codes.specs.Catalogue.{rcnm_isolated_node, rcnm_connected_node, rcnm_edge, topi_beginning, topi_end}
use Rattle.s57_records.specs.Fields.{dsid, dssi, dspm, vrid, vrpt, sg2d, sg3d, frid, foid, attribute, fspt}
use Rattle.s57_records.specs.Formats.{AllFit}
use Rattle.cell_writer.specs.Layout.{dsid_of, dssi_of, dspm_of, vector_values, point_values, sounding_values, end_values, frid_of, foid_of, attribute_values, pointer_values}

abbrev pub ShapeFits : Shape → Type 0
ShapeFits (One p) = AllFit sg2d (point_values p)
ShapeFits (Soundings list) = All (λ (s : Sounding). AllFit sg3d (sounding_values s)) list

pub record IsolatedFits (n : Isolated) : Type 0 where
  pub identifier : AllFit vrid (vector_values rcnm_isolated_node n.rcid n.rver)
  pub shape : ShapeFits n.shape

pub record ConnectedFits (n : Connected) : Type 0 where
  pub identifier : AllFit vrid (vector_values rcnm_connected_node n.rcid n.rver)
  pub place : AllFit sg2d (point_values n.at)

pub record EdgeFits (e : Edge) : Type 0 where
  pub identifier : AllFit vrid (vector_values rcnm_edge e.rcid e.rver)
  pub first : AllFit vrpt (end_values topi_beginning e.first)
  pub last : AllFit vrpt (end_values topi_end e.last)
  pub inner : All (λ (p : Point). AllFit sg2d (point_values p)) e.inner

pub record FeatureFits (f : Feature) : Type 0 where
  pub identifier : AllFit frid (frid_of f)
  pub name : AllFit foid (foid_of f)
  pub attributes : All (λ (a : Attribute). AllFit attribute (attribute_values a)) f.attributes
  pub pointers : All (λ (p : Pointer). AllFit fspt (pointer_values p)) f.pointers

-- each value of the chart fits
pub record IsSized (c : Parts) : Type 0 where
  pub identity : AllFit dsid (dsid_of c.header)
  pub structure : AllFit dssi (dssi_of c)
  pub units : AllFit dspm (dspm_of c.header)
  pub isolated : All IsolatedFits c.isolated
  pub connected : All ConnectedFits c.connected
  pub edges : All EdgeFits c.edges
  pub features : All FeatureFits c.features
