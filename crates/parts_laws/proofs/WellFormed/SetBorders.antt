-- Each face and each block has an edge on its border: it has a piece, and from there a way leads to its border.
use Rattle.std.proofs.Common.{◌≡◌, ℕ, ◌<◌, true, List, length, ◌∙◌, arith}
use Rattle.std.specs.Prelude.{Contains}
use Rattle.boundary_arcs.specs.Edges.{AreArcsOf}
use Rattle.boundary_arcs.specs.declared.arc.Arc.{Arc}
use Rattle.mesh_definitions.specs.Blocks.{IsBlocks}
use Rattle.mesh_definitions.specs.Field.{Field}
use Rattle.mesh_definitions.specs.Mesh.{all_cells, has_cell}
use Rattle.mesh_definitions.specs.Pieces.{piece_at, whole_mesh}
use Rattle.mesh_definitions.specs.declared.Piece.{Piece}
use Rattle.mesh_definitions.specs.declared.Rect.{Rect}
use Rattle.mesh_definitions.specs.declared.Way.TheVariants.{Slant}
use Rattle.face_fill.specs.Ends.{some_part}
use Rattle.face_fill.specs.Legs.{has_it}
use Rattle.face_fill.specs.Listed.{InMesh, in_list, of_list}
use Rattle.face_fill.specs.Numbered.{AreFaces, FacesView, block_of, face_in}
use Rattle.face_fill.specs.Items.{leg, tri_of}
use Rattle.parts_laws.proofs.WellFormed.BorderEdges.{bordered}
use Rattle.parts_laws.proofs.WellFormed.Features.{ArePointed}
use Rattle.parts_laws.proofs.WellFormed.WaysToBorder.{at_part, found_from}
use Rattle.parts_laws.proofs.WellFormed.AreaPointers.{rings_some}
use Rattle.mesh_laws.specs.FaceLaws.{DrawnParts}
use Rattle.mesh_laws.specs.PieceLaws.{PiecesOnce}
use Rattle.ring_builder.specs.Parts.{bordering, numbers}
use Rattle.ring_builder.specs.Rings.{HasRings}
use Rattle.ring_builder.specs.declared.ring.Part.{Part}
use Rattle.ring_builder.specs.declared.ring.Ring.{Ring}

module _ (once : PiecesOnce) (parts : DrawnParts) (f : Field) (block : ℕ → ℕ → ℕ) (v : FacesView) (are : AreFaces f block v) (arcs : List Arc) (arcs_are : AreArcsOf (whole_mesh f block) (face_in f v) arcs) where
  -- a set of faces that has a piece has an edge on its border
  has_border : (owner : ℕ → ℕ) (k : ℕ) (p : Piece) → InMesh f (all_cells f) p → owner (face_in f v p) ≡ k → (q : Part) × Contains (bordering arcs owner k) q
  has_border owner k p h e = bordered (whole_mesh f block) (face_in f v) owner k (once f (all_cells f) block) are.faces parts arcs arcs_are (found_from f (all_cells f) block (λ q. owner (face_in f v q)) k p h e)

  -- each face is pointed at its edges
  pub faces_pointed : (rings : List (List Ring)) → HasRings arcs (λ face. face) (length v.classes) rings → ArePointed v arcs rings
  faces_pointed rings h k l =
      let n = h.each in
      let below : k < length v.classes = omega (arith, l, n) in
      let piece = are.gapless.used k below in
      let q = has_border (λ face. face) k piece.0 (of_list f (all_cells f) block piece.0 piece.1) piece.2 in
      rings_some v arcs (λ face. face) k _ q.0 (h.rings k below) q.1

  module _ (count : ℕ) (rect : ℕ → Rect) (blocks : IsBlocks (all_cells f) count rect block) where
    -- a block has a piece
    record IsPieceOf (k : ℕ) : Type 0 where
      pub piece : Piece
      pub there : InMesh f (all_cells f) piece
      pub of : block piece.tri.row piece.tri.col ≡ k

    block_piece : (k : ℕ) → k < count → IsPieceOf k
    block_piece k l =
        let r = rect k in
        let i = blocks.inside k l in
        let here : has_cell r r.row r.col ≡ true = has_it r r.row r.col (record { north = omega arith; south = omega (arith, i.some_rows); west = omega arith; east = omega (arith, i.some_cols) }) in
        let all : has_cell (all_cells f) r.row r.col ≡ true = has_it (all_cells f) r.row r.col (record { north = i.north; south = omega (arith, i.some_rows, i.south); west = i.west; east = omega (arith, i.some_cols, i.east) }) in
        let t = tri_of r.row r.col true in
        let s = some_part f (leg t Slant).link in
        record { piece = piece_at f s.0 t; there = at_part f (all_cells f) t Slant s.0 all s.1; of = (blocks.holds r.row r.col k all l).0 here }

    -- each block is pointed at its edges
    pub blocks_pointed : (rings : List (List Ring)) → HasRings arcs (numbers v.blocks) count rings → ArePointed v arcs rings
    blocks_pointed rings h k l =
        let n = h.each in
        let below : k < count = omega (arith, l, n) in
        let p = block_piece k below in
        let e : block_of v (face_in f v p.piece) ≡ k = are.blocks p.piece (in_list f (all_cells f) block p.piece p.there) ∙ p.of in
        let q = has_border (numbers v.blocks) k p.piece p.there e in
        rings_some v arcs (numbers v.blocks) k _ q.0 (h.rings k below) q.1
