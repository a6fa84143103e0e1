use Rattle.boundary_arcs.proofs.Used.{used_at}
use Rattle.parts_laws.proofs.Chart.Whole.{chart_of}
use Rattle.parts_laws.proofs.made_parts_are_the_chart.Goals as goal

pub returns : goal.returns
returns k = record {
  chart = λ g s c sheet made. chart_of k.piece_laws.ensures.once k.face_laws.ensures.apart g s c made sheet (used_at made.arcs.nodes made.arcs.arcs made.arcs_keep.used) made.radii_are.few;
}
