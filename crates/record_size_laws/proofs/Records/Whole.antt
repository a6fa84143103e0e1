-- Each record of made parts is short.
use Rattle.std.proofs.Common.{◌≡◌, ℕ, ◌+◌, ◌-◌, ◌<◌, ◌≤◌, true, ◌&&◌, List, ◌++◌, length, drop, sym, ap₂, ◌∙◌, subst, arith}
use Rattle.std.specs.List.{All, list_all, range_with_len}
use Rattle.std.proofs.lemmas.List.{length-drop, length-take}
use Rattle.std.proofs.lemmas.List.Elements.{All-map}
use Rattle.std.proofs.lemmas.List.Folds.{list_all-append}
use Rattle.boundary_arcs.specs.Edges.{arc_of}
use Rattle.boundary_arcs.specs.declared.arc.Arc.{Arc}
use Rattle.cell_writer.specs.Layout.{connected_parts, edge_parts, feature_parts, feature_records, fits_of, is_short, isolated_parts, numbered, vector_records}
use Rattle.mesh_definitions.specs.Field.{field_of}
use Rattle.chart_model.specs.declared.records.Connected.{Connected}
use Rattle.chart_model.specs.declared.records.Parts.{Parts}
use Rattle.built_parts.specs.Made.{AreMade}
use Rattle.built_parts.specs.Nodes.{edge_record, edge_records}
use Rattle.depth_grid.specs.Grid.{GridView}
use Rattle.plane_laws.proofs.Lists.{all_below}
use Rattle.record_size_laws.specs.Records.{AreShort, MadePartsFit}
use Rattle.record_size_laws.proofs.Records.Features.{IsShort, features_short}
use Rattle.record_size_laws.proofs.Records.Lengths.{HasFew, IsBrief, all_short, connected_short, data_set_short, edge_short, feature_short, isolated_few, isolated_short, parameters_short}
use Rattle.record_size_laws.proofs.Records.Sides.{arcs_short, few_border_blocks, few_border_faces}
use Rattle.record_size_laws.proofs.Records.Texts.{charted_within, ends_within}
use Rattle.rule_sheet.specs.Values.{IsSheet, SheetView}

edges_brief : (arcs : List Arc) → ((k : ℕ) → k < length arcs → length (arc_of arcs k).points ≤ 12001) → All IsBrief (edge_records arcs)
edges_brief arcs few =
    All-map IsBrief (edge_record arcs) (range_with_len 0 (length arcs))
    (all_below (λ k. IsBrief (edge_record arcs k)) (length arcs)
    (λ k l. let h = few k (omega (arith, l)) in
    let points = (arc_of arcs k).points in
    omega (arith, h, length-take (length points - 2) (drop 1 points), length-drop 1 points)))

abbrev Anything : Connected → Type 0
Anything k = Unit {0}

module _ (g : GridView) (s : SheetView) (c : Parts) (sheet : IsSheet s) (m : AreMade g s c) (short : AreShort (field_of m.view s.levels) m.block m.blocks m.faces) where
  isolated_all : list_all is_short (numbered isolated_parts 3 c.isolated) ≡ true
  isolated_all = all_short isolated_parts HasFew isolated_short 3 c.isolated (subst (All HasFew) (sym m.isolated.are) (isolated_few m.view m.isolated.chosen))

  connected_all : (n : ℕ) → list_all is_short (numbered connected_parts n c.connected) ≡ true
  connected_all n = all_short connected_parts Anything (λ n k t. connected_short n k) n c.connected (λ k d l. tt)

  edges_all : (n : ℕ) → list_all is_short (numbered edge_parts n c.edges) ≡ true
  edges_all n =
      all_short edge_parts IsBrief edge_short n c.edges
      (subst (All IsBrief) (sym m.edges) (edges_brief m.arcs.arcs (arcs_short (field_of m.view s.levels) m.block m.blocks m.faces m.arcs.arcs short m.arcs_are m.arcs_keep.sides)))

  features_all : (n : ℕ) → list_all is_short (numbered feature_parts n c.features) ≡ true
  features_all n =
      let f = field_of m.view s.levels in
      let ends = ends_within m.view.charted m.low m.high (charted_within s.step_from s.steps m.view.opened m.view.charted m.generalised.charted) m.ends in
      all_short feature_parts IsShort feature_short n c.features
      (features_short s.levels sheet.levels m.low m.high ends.0 ends.1 m.faces m.arcs.arcs s.catzoc m.blocks (length c.isolated) c.features m.features
      (few_border_blocks f m.block m.blocks m.faces m.arcs.arcs short m.arcs_are m.faces_are)
      (few_border_faces f m.block m.blocks m.faces m.arcs.arcs short m.arcs_are))

  vectors_all : list_all is_short (vector_records c) ≡ true
  vectors_all =
      let nodes = numbered connected_parts (3 + length c.isolated) c.connected in
      let lines = numbered edge_parts (3 + (length c.isolated + length c.connected)) c.edges in
      list_all-append is_short (numbered isolated_parts 3 c.isolated) (nodes ++ lines)
      ∙ ap₂ (λ a b. a && b) isolated_all (list_all-append is_short nodes lines ∙ ap₂ (λ a b. a && b) (connected_all (3 + length c.isolated)) (edges_all (3 + (length c.isolated + length c.connected))))

  all_fit : fits_of c ≡ true
  unfolding fits_of
  all_fit =
      ap₂ (λ a b. a && b) (data_set_short s c 1 sheet m.header)
      (ap₂ (λ a b. a && b) (parameters_short s c.header 2 m.header)
      (list_all-append is_short (vector_records c) (feature_records c) ∙ ap₂ (λ a b. a && b) vectors_all (features_all (3 + (length c.isolated + (length c.connected + length c.edges))))))

pub made_fit : MadePartsFit
made_fit = all_fit
