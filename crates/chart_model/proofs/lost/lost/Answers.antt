use Rattle.std.proofs.Common.{not, Some, None, refl, sym, ◌∙◌}
use Rattle.std.specs.List.{flat_map}
use Rattle.chart_model.proofs.Finding.{find_both}
use Rattle.chart_model.specs.References.{stands, edge_names, feature_names}
use Rattle.chart_model.specs.declared.lost.Name.{Name}
use Rattle.chart_model.proofs.lost.lost.Goals as goal

pub returns-in-Some : goal.returns-in-Some
returns-in-Some c = find_both (λ (n : Name). not (stands c.args.parts.now n)) (flat_map edge_names c.args.parts.now.edges) (flat_map feature_names c.args.parts.now.features) (Some c.in-Some.name) None (sym c.in-Some.is ∙ c.lost_in_edges.ensures) refl

pub returns-in-None : goal.returns-in-None
returns-in-None c = find_both (λ (n : Name). not (stands c.args.parts.now n)) (flat_map edge_names c.args.parts.now.edges) (flat_map feature_names c.args.parts.now.features) None _ (sym c.in-None.is ∙ c.lost_in_edges.ensures) c.lost_in_features.ensures
