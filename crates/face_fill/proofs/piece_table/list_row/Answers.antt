use Rattle.std.proofs.Common.{◌≡◌, ◌+◌, ◌-◌, ◌*◌, ◌<◌, true, false, sym, ap, ◌∙◌, subst, arith}
use Rattle.mesh_definitions.specs.Field.{Field}
use Rattle.mesh_definitions.specs.declared.Rect.{Rect}
use Rattle.mesh_definitions.specs.declared.Way.TheVariants.{Down, Slant}
use Rattle.face_fill.specs.BandTableView.{field_by}
use Rattle.face_fill.specs.Items.{tri_of}
use Rattle.face_fill.specs.Legs.{has_it}
use Rattle.face_fill.specs.PieceTableView.{block_by}
use Rattle.face_fill.specs.Runs.{AreListed, IsBefore, IsLast}
use Rattle.face_fill.specs.declared.tables.Look.{Look}
use Rattle.face_fill.proofs.Adding.{weaker}
use Rattle.face_fill.proofs.Runs.{upper_of, west_of}
use Rattle.face_fill.proofs.piece_table.list_row.Goals as goal

pub list_tri-requires-clause-before : goal.list_tri-requires-clause-before
list_tri-requires-clause-before c =
    let n = c.args.nodes.now in
    let f : Field = field_by n in
    let r : Rect = n.rect in
    let block = block_by c.args.blocks in
    let k = r.col + c.loop-col.col in
    let place = 2 * ((c.args.row - r.row) * r.cols) + 2 * c.loop-col.col in
    weaker (λ (b : Look). (0 < c.loop-col.col) × IsLast f r block place c.loop-col.items (tri_of c.args.row (k - 1) false) b) (IsBefore f r block place c.loop-col.items (tri_of c.args.row k true)) c.loop-col.before
    (λ b h. record {
      tri = tri_of c.args.row (k - 1) false;
      way = Down;
      there = west_of r c.args.row k (omega (arith, h.0)) (has_it r c.args.row (k - 1) (record { north = c.requires.north; south = c.requires.south; west = omega (arith, h.0); east = omega (arith, c.loop-col-test.true) }));
      last = h.1;
    })
    c.loop-col.invariant.last

pub list_tri-requires-in-loop-col-clause-before : goal.list_tri-requires-in-loop-col-clause-before
list_tri-requires-in-loop-col-clause-before c =
    let r : Rect = c.args.nodes.now.rect in
    let k = r.col + c.loop-col.col in
    record {
      tri = tri_of c.args.row k true;
      way = Slant;
      there = upper_of r c.args.row k (has_it r c.args.row k (record { north = c.requires.north; south = c.requires.south; west = omega arith; east = omega (arith, c.loop-col-test.true) }));
      last = c.in_ok-look.ensures.last;
    }

pub loop-col-preserved : goal.loop-col-preserved
loop-col-preserved c =
    let n = c.args.nodes.now in
    let f : Field = field_by n in
    let r : Rect = n.rect in
    let block = block_by c.args.blocks in
    let first = 2 * ((c.args.row - r.row) * r.cols) in
    let next : first + 2 * c.loop-col.col + 1 + 1 ≡ first + 2 * (c.loop-col.col + 1) = omega arith in
    let col : r.col + c.loop-col.col ≡ r.col + (c.loop-col.col + 1) - 1 = omega arith in
    record {
      listed = subst (λ k. AreListed f r block k c.list_tri-in-loop-col.new.items) next c.in_ok-last.ensures.listed;
      last = (
        omega arith,
        subst (λ k. IsLast f r block (first + 2 * (c.loop-col.col + 1)) c.list_tri-in-loop-col.new.items (tri_of c.args.row k false) c.in_ok-last.last) col
            (subst (λ k. IsLast f r block k c.list_tri-in-loop-col.new.items (tri_of c.args.row (r.col + c.loop-col.col) false) c.in_ok-last.last) next c.in_ok-last.ensures.last),
      );
    }

pub returns : goal.returns
returns c =
    let n = c.args.nodes.now in
    let r : Rect = n.rect in
    let a = c.args.row - r.row in
    let done : c.loop-col.col ≡ r.cols = omega (arith, c.loop-col-test.false, c.loop-col.auto.col-end) in
    let more : (a + 1) * r.cols ≡ a * r.cols + r.cols = omega arith in
    let row : c.args.row + 1 - r.row ≡ a + 1 = omega (arith, c.requires.north) in
    let end : 2 * (a * r.cols) + 2 * c.loop-col.col ≡ 2 * ((a + 1) * r.cols) = omega (arith, done, more) in
    subst (λ k. AreListed (field_by n) r (block_by c.args.blocks) k c.loop-col.items) (end ∙ ap (λ k. 2 * (k * r.cols)) (sym row)) c.loop-col.invariant.listed
