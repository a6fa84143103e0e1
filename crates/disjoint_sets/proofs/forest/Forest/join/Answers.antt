use Rattle.std.proofs.Common.{arith}
use Rattle.disjoint_sets.specs.Views.{parents_of}
use Rattle.disjoint_sets.proofs.Ways.{root_is_root}
use Rattle.disjoint_sets.proofs.Hanging.{joined_after, joined_by_lower, joined_by_other, keeps_roots_twice}
use Rattle.disjoint_sets.proofs.forest.Forest.join.Goals as goal

pub overflow_cast-above_a : goal.overflow_cast-above_a
overflow_cast-above_a c =
    let r = root_is_root (parents_of c.args.self.now) c.args.a c.root-above_a.result c.root-above_a.ensures.root in
    omega (arith, r.0, c.args.self.now.sound.few)

pub index_mut-requires : goal.index_mut-requires
index_mut-requires c =
    let b = c.root-above_b.ensures in
    let r = root_is_root (parents_of c.root-above_b.new.self) c.args.b c.root-above_b.result (b.keeps.there c.args.b c.root-above_b.result b.root) in
    omega (arith, r.0, c.root-above_b.new.self.parents.ok.0)

pub overflow_cast-above_b : goal.overflow_cast-above_b
overflow_cast-above_b c =
    let r = root_is_root (parents_of c.root-above_a.new.self) c.args.b c.root-above_b.result c.root-above_b.ensures.root in
    omega (arith, r.0, c.root-above_a.new.self.sound.few)

pub index_mut-requires-else-above_a-above_b : goal.index_mut-requires-else-above_a-above_b
index_mut-requires-else-above_a-above_b c =
    let a = c.root-above_a.ensures in
    let b = c.root-above_b.ensures in
    let way = b.keeps.there c.args.a c.root-above_a.result (a.keeps.there c.args.a c.root-above_a.result a.root) in
    let r = root_is_root (parents_of c.root-above_b.new.self) c.args.a c.root-above_a.result way in
    omega (arith, r.0, c.root-above_b.new.self.parents.ok.0)

pub returns-then-above_a-above_b-clause-joined : goal.returns-then-above_a-above_b-clause-joined
returns-then-above_a-above_b-clause-joined c =
    let a = c.root-above_a.ensures in
    let b = c.root-above_b.ensures in
    let old = parents_of c.args.self.now in
    let walked = parents_of c.root-above_b.new.self in
    let keeps = keeps_roots_twice old (parents_of c.root-above_a.new.self) walked a.keeps b.keeps in
    joined_after old walked _ c.args.a c.args.b keeps
    (joined_by_lower walked c.root-above_b.new.self.sound c.args.a c.args.b c.root-above_a.result c.root-above_b.result (keeps.there c.args.a c.root-above_a.result a.root) (b.keeps.there c.args.b c.root-above_b.result b.root) c.if-above_a-above_b.true)

pub returns-else-above_a-above_b-clause-joined : goal.returns-else-above_a-above_b-clause-joined
returns-else-above_a-above_b-clause-joined c =
    let a = c.root-above_a.ensures in
    let b = c.root-above_b.ensures in
    let old = parents_of c.args.self.now in
    let walked = parents_of c.root-above_b.new.self in
    let keeps = keeps_roots_twice old (parents_of c.root-above_a.new.self) walked a.keeps b.keeps in
    joined_after old walked _ c.args.a c.args.b keeps
    (joined_by_other walked c.root-above_b.new.self.sound c.args.a c.args.b c.root-above_a.result c.root-above_b.result (keeps.there c.args.a c.root-above_a.result a.root) (b.keeps.there c.args.b c.root-above_b.result b.root) c.if-above_a-above_b.false)
