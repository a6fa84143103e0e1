use Rattle.std.proofs.Common.{◌≡◌, subst}
use Rattle.mesh_definitions.specs.Field.{Field}
use Rattle.mesh_definitions.specs.Ground.{Gives}
use Rattle.depth_rounding.specs.Views.{levels_view}
use Rattle.tri_mesh.specs.Cells.{block_in}
use Rattle.tri_mesh.specs.Fields.{field_in}
use Rattle.tri_mesh.specs.Lines.OnDrawn.{OnChord}
use Rattle.tri_mesh.specs.Views.{blocks_view}
use Rattle.tri_mesh.proofs.Drawing.{not_by, near_draws, tri_there}
use Rattle.tri_mesh.proofs.ground.ground_in.Goals as goal

pub returns-then-lines_near-clause-line : goal.returns-then-lines_near-clause-line
returns-then-lines_near-clause-line c = λ _. near_draws (field_in c.args.ch.now c.args.levels.now) (block_in (blocks_view c.args.blocks.now)) c.args.p c.args.row c.args.col c.requires.row c.requires.col (c.lines_near.ensures.0 c.if-lines_near.true)

pub returns-in-Some-clause-near : goal.returns-in-Some-clause-near
returns-in-Some-clause-near c = λ d. absurd (not_by c.lines_near.result c.if-lines_near.false c.lines_near.ensures.1 d)

pub returns-in-Some-clause-inside : goal.returns-in-Some-clause-inside
returns-in-Some-clause-inside c = λ K e.
    let f : Field = field_in c.args.ch.now c.args.levels.now in
    let t = c.tri_at-tri.result in
    let same : c.in-Some.class ≡ K = cc (e) in
    record {
      tri = t;
      there = tri_there f t c.args.row c.args.col c.tri_at-tri.ensures.row c.tri_at-tri.ensures.col c.requires.row c.requires.col;
      has = c.tri_at-tri.ensures.has (levels_view c.args.levels.now);
      gives = subst (Gives f t c.args.p) same c.in-Some.ensures.gives;
    }

pub returns-in-None-clause-line : goal.returns-in-None-clause-line
returns-in-None-clause-line c = λ _.
    let f : Field = field_in c.args.ch.now c.args.levels.now in
    let t = c.tri_at-tri.result in
    OnChord t (tri_there f t c.args.row c.args.col c.tri_at-tri.ensures.row c.tri_at-tri.ensures.col c.requires.row c.requires.col) (c.class_in.ensures.none.0 c.in-None.is)
