-- What pointers name, and whether it stands in the chart.
use Rattle.std.specs.Prelude.{Bool, false, not, cond, eqb, Option, List, [], ◌∷◌, ◌++◌, map, find, flat_map}
use Rattle.chart_model.specs.Numbers.{has, isolated_numbers, connected_numbers, edge_numbers}
use Rattle.chart_model.specs.declared.records.Edge.{Edge}
use Rattle.chart_model.specs.declared.records.Feature.{Feature}
use Rattle.chart_model.specs.declared.records.Parts.{Parts}
use Rattle.chart_model.specs.declared.records.Pointer.{Pointer}
use Rattle.s57_codes.specs.Catalogue.{rcnm_connected_node, rcnm_edge, rcnm_isolated_node}
use Rattle.chart_model.specs.declared.lost.Name.{Name}

-- what an edge names: its first node, then its last
abbrev pub edge_names : Edge → List Name
edge_names e = record { rcnm = rcnm_connected_node; rcid = e.first } ∷ record { rcnm = rcnm_connected_node; rcid = e.last } ∷ []

-- what a pointer of a feature names
abbrev pub pointer_name : Pointer → Name
pointer_name p = record { rcnm = p.rcnm; rcid = p.rcid }

abbrev pub feature_names : Feature → List Name
feature_names f = map pointer_name f.pointers

-- all that is named, edge by edge and then feature by feature
abbrev pub names : Parts → List Name
names c = flat_map edge_names c.edges ++ flat_map feature_names c.features

-- whether a name is that of a node or an edge of the chart
abbrev pub stands : Parts → Name → Bool
stands c n =
    cond (eqb n.rcnm rcnm_isolated_node) (has (isolated_numbers c) n.rcid)
    (cond (eqb n.rcnm rcnm_connected_node) (has (connected_numbers c) n.rcid)
    (cond (eqb n.rcnm rcnm_edge) (has (edge_numbers c) n.rcid) false))

-- the first name of a list that is of nothing
abbrev pub lost_of : Parts → List Name → Option Name
lost_of c ns = find (λ n. not (stands c n)) ns
