-- The soundings of a chart of a generalised grid and a sheet.
use Rattle.std.specs.Prelude.{◌≡◌, ℕ, ◌+◌, ◌<◌, ◌≤◌, List, [], ◌∷◌, map, length, flat_map, All, slice_index_or}
use Rattle.mesh_definitions.specs.Field.{field_of, point}
use Rattle.chart_definitions.specs.Coverage.{pointers_of}
use Rattle.chart_model.specs.Tally.{soundings_of}
use Rattle.chart_model.specs.declared.records.Isolated.{Isolated}
use Rattle.chart_model.specs.declared.records.Parts.{Parts}
use Rattle.chart_model.specs.declared.records.Pointer.{Pointer}
use Rattle.chart_model.specs.declared.records.Sounding.{Sounding}
use Rattle.depth_grid.specs.declared.disc.Radii.{Radii}
use Rattle.depth_grid.specs.declared.node.NodeId.{NodeId}
use Rattle.rule_sheet.specs.Values.{SheetView}
use Rattle.s57_codes.specs.Catalogue.{null, objl_soundg, rcnm_isolated_node}
use Rattle.shoal_buffer.specs.Charted.{ChartedView}
use Rattle.sounding_select.specs.Selection.{IsSelection, charted_depth}

-- the radii of a sheet's soundings
abbrev pub radii_of : SheetView → Radii
radii_of s = record { aspect = s.aspect; count = length s.sounding_radius; radius = s.sounding_radius }

-- the sounding of a node: where it stands, with its charted depth
abbrev pub sounding_at : ChartedView → SheetView → NodeId → Sounding
sounding_at v s n = record { at = point (field_of v s.levels) n; depth = charted_depth v n }

-- the pointers of a feature of soundings: one, at its isolated node
abbrev pub sounding_pointers : Isolated → List Pointer
sounding_pointers n = record { rcnm = rcnm_isolated_node; rcid = n.rcid; ornt = null; usag = null; mask = null } ∷ []

-- The soundings are the selected nodes in their order, each at its node with its charted depth; 2,000 stand at an isolated node, 1 to 2,000 at the last one, and there is a SOUNDG for each isolated node, in the same order.
pub record HasSoundings (v : ChartedView) (s : SheetView) (c : Parts) : Type 0 where
  pub chosen : List NodeId
  pub selected : IsSelection v s.levels (radii_of s) chosen
  pub points : flat_map soundings_of c.isolated ≡ map (sounding_at v s) chosen
  pub full : (k : ℕ) (d : Isolated) → k + 1 < length c.isolated → length (soundings_of (slice_index_or c.isolated k d)) ≡ 2000
  pub some : All (λ n. (1 ≤ length (soundings_of n)) × (length (soundings_of n) ≤ 2000)) c.isolated
  pub features : pointers_of objl_soundg c ≡ map sounding_pointers c.isolated
