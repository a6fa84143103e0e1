-- The parts made of a grid and a sheet keep the conditions of a chart.
use Rattle.std.proofs.Common.{ℕ, ◌<◌, ◌^◌, List, [], All, length, ap, sym, subst, arith}
use Rattle.std.specs.Prelude.{IsTrue}
use Rattle.std.proofs.lemmas.List.Elements.{All-nil, All-weaker}
use Rattle.std.proofs.lemmas.List.FromFn.{length-map-range_with_len}
use Rattle.boundary_arcs.proofs.Sizes.{two_each}
use Rattle.boundary_arcs.specs.Edges.{AreArcs}
use Rattle.boundary_arcs.specs.declared.arc.Arc.{Arc}
use Rattle.mesh_definitions.specs.Field.{field_of}
use Rattle.chart_model.specs.Whole.{IsText, IsWellFormed, has_some, is_made}
use Rattle.chart_model.specs.declared.records.Attribute.{Attribute}
use Rattle.chart_model.specs.declared.records.Feature.{Feature}
use Rattle.chart_model.specs.declared.records.Isolated.{Isolated}
use Rattle.chart_model.specs.declared.records.Parts.{Parts}
use Rattle.built_parts.specs.Areas.{area_contents, coverage_contents}
use Rattle.built_parts.specs.Contours.{contour_contents, sounding_contents}
use Rattle.built_parts.specs.Contents.{content_of}
use Rattle.built_parts.specs.Made.{AreMade}
use Rattle.built_parts.specs.Nodes.{connected_record, edge_record}
use Rattle.depth_grid.specs.Grid.{GridView}
use Rattle.parts_laws.proofs.Adding.{all_adding}
use Rattle.parts_laws.proofs.WellFormed.Features.{Keeps, KeepsAll, areas_kept, contours_kept, coverage_kept, soundings_kept}
use Rattle.parts_laws.proofs.WellFormed.Portions.{soundings_some}
use Rattle.parts_laws.proofs.WellFormed.SetBorders.{blocks_pointed, faces_pointed}
use Rattle.parts_laws.proofs.WellFormed.Texts.{header_texts}
use Rattle.parts_laws.specs.WellFormed.{MadePartsAreFormed}
use Rattle.mesh_laws.specs.FaceLaws.{DrawnParts}
use Rattle.mesh_laws.specs.PieceLaws.{PiecesOnce}
use Rattle.plane_geom.specs.declared.Point.{Point}
use Rattle.rule_sheet.specs.Values.{IsSheet, SheetView}

-- edges have two points or more each, so there are fewer edges than points
few_arcs : (nodes : List Point) (arcs : List Arc) (faces : ℕ) → AreArcs nodes arcs faces → length arcs < 2 ^ 32
few_arcs nodes arcs faces s =
    let two = two_each (λ (a : Arc). length a.points) arcs (λ i d h. (s.simple i d h).long) in
    let few = s.few in
    omega (arith, two, few)

module _ (once : PiecesOnce) (parts : DrawnParts) (g : GridView) (s : SheetView) (c : Parts) (sheet : IsSheet s) (made : AreMade g s c) where
  features_kept : KeepsAll c.features
  features_kept =
      let fs = made.features in
      let f = field_of made.view s.levels in
      let covers : KeepsAll fs.covers = all_adding Keeps (coverage_contents s.catzoc made.faces made.arcs.arcs fs.ground.rings) [] fs.covers fs.ground.added
      (coverage_kept made.faces made.arcs.arcs fs.ground.rings
      (blocks_pointed once parts f made.block made.faces made.faces_are made.arcs.arcs made.arcs_are made.blocks made.rect made.by_need.blocks fs.ground.rings fs.ground.are) s.catzoc)
      (All-nil (λ (f : Feature). Keeps (content_of f))) in
      let faces : KeepsAll fs.faces = all_adding Keeps (area_contents s.levels made.low made.high made.faces made.arcs.arcs fs.areas.rings) fs.covers fs.faces fs.areas.added
      (areas_kept made.faces made.arcs.arcs fs.areas.rings
      (faces_pointed once parts f made.block made.faces made.faces_are made.arcs.arcs made.arcs_are fs.areas.rings fs.areas.are) s.levels made.low made.high)
      covers in
      let lines : KeepsAll fs.lines = all_adding Keeps (contour_contents s.levels made.faces made.arcs.arcs) fs.faces fs.lines fs.contours (contours_kept s.levels made.faces made.arcs.arcs) faces in
      all_adding Keeps (sounding_contents (length c.isolated)) fs.lines c.features fs.soundings (soundings_kept (length c.isolated)) lines

  pub formed : IsWellFormed c
  formed = record {
    header = header_texts s c.header sheet made.header;
    attributes = All-weaker (λ (f : Feature). Keeps (content_of f)) (λ (f : Feature). All (λ (a : Attribute). IsText a.text) f.attributes) (λ f k. k.texts) c.features features_kept;
    soundings = subst (All (λ (n : Isolated). IsTrue (has_some n))) (sym made.isolated.are) (soundings_some made.view made.isolated.chosen);
    made = All-weaker (λ (f : Feature). Keeps (content_of f)) (λ (f : Feature). IsTrue (is_made f)) (λ f k. k.made) c.features features_kept;
    few_isolated = let few = made.few_isolated in omega (arith, few);
    few_connected =
        let n = length-map-range_with_len (connected_record made.arcs.nodes) 0 (length made.arcs.nodes) in
        let few = made.arcs_keep.nodes_few in
        omega (arith, ap length made.connected, n, few);
    few_edges =
        let n = length-map-range_with_len (edge_record made.arcs.arcs) 0 (length made.arcs.arcs) in
        omega (arith, ap length made.edges, n, few_arcs made.arcs.nodes made.arcs.arcs (length made.faces.classes) made.arcs_keep);
    few_features = let few = made.few_features in omega (arith, few);
  }

pub made_parts : PiecesOnce → DrawnParts → MadePartsAreFormed
made_parts once parts g s c sheet made = formed once parts g s c sheet made
