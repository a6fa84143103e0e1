use Rattle.std.proofs.Common.{map, sym, ◌∙◌, ap}
use Rattle.mesh_definitions.specs.Faces.{borders, boundary}
use Rattle.mesh_definitions.specs.Pieces.{walked, same_piece}
use Rattle.mesh_definitions.specs.Rings.{area_sum}
use Rattle.mesh_definitions.proofs.Areas.{below, below_turned, area_total, same_part}
use Rattle.mesh_definitions.proofs.mesh_counts.Goals as goal
use Rattle.plane_laws.specs.Borders.{total}

pub returns-clause-counts : goal.returns-clause-counts
returns-clause-counts c = λ m F p h. c.boundary_sums.ensures.count (borders m) same_piece m.pieces F (walked m) p (c.mesh_borders.ensures.both_ways m).0 c.mesh_borders.ensures.same_piece h (c.mesh_borders.ensures.both_ways m).1

pub returns-clause-outline : goal.returns-clause-outline
returns-clause-outline c = λ m p h. c.boundary_sums.ensures.outline_sum (borders m) same_piece m.pieces (walked m) p (c.mesh_borders.ensures.both_ways m).0 c.mesh_borders.ensures.same_piece h (c.mesh_borders.ensures.both_ways m).1

pub returns-clause-area : goal.returns-clause-area
returns-clause-area c = λ m F h.
    area_total (walked m) (boundary m F)
    ∙ (c.boundary_sums.ensures.over_pieces (borders m) same_piece m.pieces F (λ s. below (walked m s)) (c.mesh_borders.ensures.both_ways m).0 c.mesh_borders.ensures.same_piece h
    (λ x there. ap below ((c.mesh_borders.ensures.both_ways m).1 x there) ∙ below_turned (walked m x))
    ∙ same_part (λ q. total (λ s. below (walked m s)) (boundary m (same_piece q))) (λ q. area_sum (map (walked m) (boundary m (same_piece q)))) F m.pieces (λ q. sym (area_total (walked m) (boundary m (same_piece q)))))
