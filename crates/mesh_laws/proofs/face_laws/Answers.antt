use Rattle.mesh_laws.proofs.FaceKinds.{drawn_parts, faces_have_kinds}
use Rattle.mesh_laws.proofs.FaceSums.{faces_balance}
use Rattle.mesh_laws.proofs.face_laws.Goals as goal

pub returns : goal.returns
returns c = record {
  balance = faces_balance c.boundary_sums.ensures.boundary_sum c.boundary_sums.ensures.over_pieces c.mesh_borders.ensures.both_ways c.mesh_borders.ensures.same_piece;
  apart = drawn_parts;
  one_kind = faces_have_kinds;
}
