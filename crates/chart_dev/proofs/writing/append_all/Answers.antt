use Rattle.std.proofs.Common.{◌+◌, ◌∙◌, refl, take, arith}
use Rattle.std.proofs.lemmas.Grind.{common_steps}
use Rattle.chart_dev.proofs.Appends.{append_step, nothing_added, still_there}
use Rattle.chart_dev.proofs.writing.append_all.Goals as goal

pub loop-added-init : goal.loop-added-init
loop-added-init g c = (nothing_added (g.S.Shelf.told c.args.shelf.now) c.args.name.now c.args.bytes.now c.requires, omega arith, refl)

pub append-requires : goal.append-requires
append-requires g c = still_there (g.S.Shelf.told c.args.shelf.now) (g.S.Shelf.told c.loop-added.shelf) c.args.name.now (take c.loop-added.added c.args.bytes.now) c.loop-added.invariant.0

pub returns-in_default-clause-err : goal.returns-in_default-clause-err
returns-in_default-clause-err g c =
    let part = c.in_default.ensures.err in (
      c.loop-added.added + part.0,
      append_step (g.S.Shelf.told c.args.shelf.now) (g.S.Shelf.told c.loop-added.shelf) (g.S.Shelf.told c.append.new.self) c.args.name.now c.args.bytes.now _ c.loop-added.added part.0 part.1 c.loop-added.invariant.0 (grind (arith, common_steps)),
    )

pub loop-added-preserved : goal.loop-added-preserved
loop-added-preserved g c = (
  append_step (g.S.Shelf.told c.args.shelf.now) (g.S.Shelf.told c.loop-added.shelf) (g.S.Shelf.told c.append.new.self) c.args.name.now c.args.bytes.now _ c.loop-added.added c.in-Ok.count c.in-Ok.ensures.ok c.loop-added.invariant.0 (grind (arith, common_steps)),
  grind (arith, common_steps, c.in-Ok.ensures.bound),
  c.in-Ok.ensures.cause.quiet ∙ c.loop-added.invariant.2,
)

pub returns-clause-there : goal.returns-clause-there
returns-clause-there g c = still_there (g.S.Shelf.told c.args.shelf.now) (g.S.Shelf.told c.loop-added.shelf) c.args.name.now (take c.loop-added.added c.args.bytes.now) c.loop-added.invariant.0
