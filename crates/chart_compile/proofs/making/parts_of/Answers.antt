use Rattle.std.proofs.Common.{◌≡◌, ◌≤◌, ◌<◌, ◌∙◌, ◌^◌, All, List, ap, arith, length, refl, subst, subst₂, sym, ℕ}
use Rattle.boundary_arcs.specs.Edges.{AreArcs}
use Rattle.boundary_arcs.specs.Views.{arcs_view}
use Rattle.chart_compile.proofs.Meshed.{bands_known, blocks_known}
use Rattle.chart_compile.proofs.Sizes.{few_arcs}
use Rattle.mesh_definitions.specs.Blocks.{AreByNeed}
use Rattle.chart_model.specs.declared.records.Feature.{Feature}
use Rattle.chart_model.specs.declared.records.Isolated.{Isolated}
use Rattle.built_parts.specs.Made.{HaveSelectedSoundings}
use Rattle.built_parts.specs.Nodes.{connected_records}
use Rattle.built_parts.specs.Numbered.{AreNumbered}
use Rattle.built_parts.specs.Order.{AreFeatures}
use Rattle.depth_rounding.specs.Views.{levels_view}
use Rattle.face_fill.specs.Views.{faces_view}
use Rattle.shoal_buffer.specs.Views.{charted_view}
use Rattle.tri_mesh.specs.Cells.{block_in, rect_of}
use Rattle.tri_mesh.specs.Fields.{field_in}
use Rattle.tri_mesh.specs.Views.{blocks_view}
use Rattle.chart_compile.proofs.making.parts_of.Goals as goal

pub invariant_of-topology-clause-few_edges : goal.invariant_of-topology-clause-few_edges
invariant_of-topology-clause-few_edges c = let a = c.in_ok-arcs.arcs in few_arcs a.nodes.items a.arcs.items a.faces a.agree

pub invariant_of-topology-clause-bands : goal.invariant_of-topology-clause-bands
invariant_of-topology-clause-bands c =
    bands_known (field_in c.in_ok-ch.ch c.args.sheet.now.levels) (block_in (blocks_view c.in_ok-blocks.blocks)) (faces_view c.in_ok-faces.faces) c.in_ok-faces.ensures

pub invariant_of-topology-clause-below : goal.invariant_of-topology-clause-below
invariant_of-topology-clause-below c =
    let b = blocks_view c.in_ok-blocks.blocks in
    let v = faces_view c.in_ok-faces.faces in
    subst (λ (n : ℕ). All (λ (o : ℕ). o < n) v.blocks) (sym c.count.ensures.value)
    (blocks_known (field_in c.in_ok-ch.ch c.args.sheet.now.levels) (block_in b) v c.in_ok-faces.ensures (length b.rects) (rect_of b) c.in_ok-blocks.ensures.by_need.blocks c.in_ok-faces.faces.sound.blocks)

pub returns : goal.returns
returns c =
    let s = c.args.sheet.now in
    let levels = levels_view s.levels in
    let v = charted_view c.in_ok-ch.ch in
    let field = field_in c.in_ok-ch.ch s.levels in
    let b = blocks_view c.in_ok-blocks.blocks in
    let faces = faces_view c.in_ok-faces.faces in
    let arcs = arcs_view c.in_ok-arcs.arcs in
    let low = c.extent_of.result.least in
    let high = c.extent_of.result.greatest in
    let isolated = c.in_ok-isolated.isolated.items in
    let features = c.in_ok-features.features.items in
    let count : c.len.result ≡ length c.over.result = omega (arith, c.len.ensures, c.in_ok-isolated.isolated.ok.0, ap length c.over.ensures) in
    record {
      header = c.in_ok-header.ensures;
      view = v;
      generalised = record { grid = c.in_ok-ch.ensures.grid; opened = c.in_ok-ch.ensures.opened; charted = c.in_ok-ch.ensures.charted };
      radii = s.radii;
      radii_are = record { aspect = s.one_aspect; few = c.in_ok-isolated.ensures.radii; each = refl };
      isolated = subst (λ (z : List Isolated). HaveSelectedSoundings v levels s.radii z) (sym c.over.ensures) c.in_ok-isolated.ensures.soundings;
      few_isolated = subst (λ (z : List Isolated). length z ≤ 2 ^ 20) (sym c.over.ensures) c.in_ok-isolated.ensures.few;
      blocks = c.count.result;
      rect = rect_of b;
      block = block_in b;
      by_need = subst (λ (n : ℕ). AreByNeed field n (rect_of b) (block_in b)) (sym c.count.ensures.value) c.in_ok-blocks.ensures.by_need;
      few_blocks = c.count.ensures.few;
      faces = faces;
      faces_sound = c.in_ok-faces.faces.sound;
      faces_are = c.in_ok-faces.ensures;
      arcs = arcs;
      arcs_keep = subst (λ (n : ℕ). AreArcs arcs.nodes arcs.arcs n) c.in_ok-arcs.ensures.faces c.in_ok-arcs.arcs.agree;
      arcs_are = c.in_ok-arcs.ensures.edges;
      connected = c.over-2.ensures ∙ c.in_ok-connected.ensures ∙ ap connected_records c.nodes.ensures;
      edges = c.over-3.ensures ∙ c.in_ok-edges.ensures;
      low = low;
      high = high;
      ends = c.extent_of.ensures;
      features = subst₂ (λ (n : ℕ) (z : List Feature). AreFeatures levels s.catzoc low high faces arcs.arcs c.count.result n z) count (sym c.over-4.ensures) c.in_ok-features.ensures.features;
      few_features = subst (λ (z : List Feature). length z ≤ 2 ^ 31) (sym c.over-4.ensures) c.in_ok-features.ensures.few;
      numbered = subst (λ (z : List Feature). AreNumbered s.agency z) (sym c.over-4.ensures) c.in_ok-features.ensures.numbered;
    }
