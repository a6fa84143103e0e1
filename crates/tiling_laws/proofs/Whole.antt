-- A chart of a grid and a sheet tells the truth, and its edges are sound.
use Rattle.std.proofs.Common.{◌+◌, ◌*◌, ◌≢◌, ℕ, AllPairs, List, length, sym, subst}
use Rattle.mesh_definitions.specs.Field.{IsField, IsGeneralised, field_of}
use Rattle.mesh_definitions.specs.Pieces.{Mesh}
use Rattle.chart_definitions.specs.ChartOf.{IsChartOf, mesh_in}
use Rattle.chart_definitions.specs.SoundEdges.{HasSoundEdges}
use Rattle.depth_grid.specs.Grid.{IsGrid, GridView}
use Rattle.chart_definitions.specs.Truth.{TellsTheTruth}
use Rattle.chart_model.specs.Numbers.{edge_numbers}
use Rattle.chart_model.specs.declared.records.Parts.{Parts}
use Rattle.tiling_laws.proofs.Counting.{range_differs}
use Rattle.tiling_laws.proofs.Opened.{charted_within}
use Rattle.tiling_laws.specs.Depths.{AreasHaveKinds, AreasNoDeeper, SoundingsNoDeeper}
use Rattle.tiling_laws.specs.EdgeLines.{EdgesAreLines, EdgesHaveSegments}
use Rattle.tiling_laws.specs.SoundEdges.{EdgesPartAreas, SegmentsOnce}
use Rattle.tiling_laws.specs.Tiling.{TilingLaw}
use Rattle.tiling_laws.specs.Truth.{IsSound}
use Rattle.rule_sheet.specs.Values.{SheetView, IsSheet}
use Rattle.shoal_buffer.specs.Charted.{ChartedView}

module _ (some : EdgesHaveSegments) (lines : EdgesAreLines) (tiling : TilingLaw) (kinds : AreasHaveKinds) (sounding_depths : SoundingsNoDeeper) (area_depths : AreasNoDeeper) (once : SegmentsOnce) (parting : EdgesPartAreas) where
  module _ (g : GridView) (s : SheetView) (c : Parts) (sheet : IsSheet s) (is : IsChartOf g s c) (sound : IsSound (field_of is.view s.levels) (mesh_in is.view s is.block)) where
    abbrev mesh : Mesh
    mesh = mesh_in is.view s is.block

    truth : TellsTheTruth g s is.view c
    truth = record {
      areas_only = kinds is.view s.levels mesh is.face c is.areas;
      tiles = tiling (field_of is.view s.levels) is.view mesh is.traces is.face c sound.counts is.edges is.areas;
      soundings = is.soundings;
      sounding_depths = sounding_depths g s is.view c is.generalised is.soundings;
      area_depths = area_depths g s is.view mesh is.face c sheet.levels is.generalised sound.counts.pieces sound.nodes is.areas;
    }

    numbers : AllPairs ◌≢◌ (edge_numbers c)
    numbers = subst (λ (ns : List ℕ). AllPairs ◌≢◌ ns) (sym is.rest.edge_count) (range_differs 1 (length c.edges))

    edges : HasSoundEdges (field_of is.view s.levels) mesh is.face c
    edges = record {
      some = some mesh is.traces c is.edges;
      sides = parting (field_of is.view s.levels) is.view s.levels mesh is.traces is.face c sound.counts.pieces sound.lines sound.outline is.edges is.areas is.pointers numbers;
      once = once mesh is.traces c sound.lines is.edges;
      lines = lines mesh is.traces c is.edges;
    }

    pub whole : TellsTheTruth g s is.view c × HasSoundEdges (field_of is.view s.levels) mesh is.face c
    whole = (truth, edges)

pub field_of_grid : (g : GridView) (s : SheetView) (v : ChartedView) → IsGrid g → IsSheet s → IsGeneralised g s.aspect s.disc_radius s.step_from s.steps v → IsField (field_of v s.levels)
field_of_grid g s v grid sheet gen =
    let own : IsGrid v.grid = subst IsGrid (sym gen.grid) grid in
    record {
      some_rows = own.rows.several;
      few_rows = own.rows.few;
      some_cols = own.columns.several;
      few_cols = own.columns.few;
      eastwards = own.eastwards;
      southwards = own.southwards;
      whole_x = own.columns.whole;
      whole_y = own.rows.whole;
      east_west = λ j l. (own.columns.above j l, own.columns.below j l);
      north_south = λ i l. (own.rows.above i l, own.rows.below i l);
      depths = λ n x e. charted_within s.step_from s.steps v.opened v.charted x gen.charted (n.row * length v.grid.xs + n.col, e);
      levels = sheet.levels;
    }
