use Rattle.std.proofs.Common.{◌≡◌, ◌≤◌, ◌+◌, ◌++◌, length, take, drop, arith, sym, ◌∙◌}
use Rattle.chart_dev.proofs.Whole.{loaned, front_kept, as_before, turn, read_to_end, too_large, retold}
use Rattle.chart_dev.proofs.reading.read_whole.Goals as goal

pub loop-bytes-preserved : goal.loop-bytes-preserved
loop-bytes-preserved g c =
    let old = c.loop-bytes.bytes.items in
    let buffer = c.read_on.new.buffer in
    let long : length buffer ≡ c.resize.new.self.len = omega (arith, c.deref_mut.ensures.len, c.read_on.auto.buffer) in
    let whole : take c.resize.new.self.len (buffer ++ drop (length buffer) c.resize.new.self.items) ≡ buffer = loaned c.resize.new.self.len buffer c.resize.new.self.items (sym long) in
    let front : take c.loop-bytes.done buffer ≡ take c.loop-bytes.done old =
    front_kept c.loop-bytes.done (c.loop-bytes.done + 65536) buffer c.deref_mut.result.now c.resize.new.self.items old _
    c.read_on.ensures.front c.deref_mut.ensures.value c.in-Ok.ensures.items (omega arith) c.loop-bytes.invariant.3 in
    let known = as_before (g.S.Shelf.told c.args.shelf.now) c.args.name.now old buffer c.loop-bytes.done front c.loop-bytes.invariant.4 in
    let reads = retold c.args.name.now (drop c.loop-bytes.done buffer) c.loop-bytes.done c.in-Ok-read_on.count c.loop-bytes.invariant.0 c.in-Ok-read_on.ensures.bytes in
    rw whole (
      c.read_on.ensures.kept ∙ c.loop-bytes.invariant.0,
      c.in-Ok-read_on.ensures.quiet ∙ c.loop-bytes.invariant.1,
      c.if-done-limit.false,
      omega (arith, c.in-Ok-read_on.ensures.bound, c.read_on.auto.buffer),
      turn (g.S.Shelf.told c.args.shelf.now) c.args.name.now buffer c.loop-bytes.done c.in-Ok-read_on.count reads known,
    )

pub returns-then-count-eq0-clause-ok : goal.returns-then-count-eq0-clause-ok
returns-then-count-eq0-clause-ok g c =
    let old = c.loop-bytes.bytes.items in
    let buffer = c.read_on.new.buffer in
    let long : length buffer ≡ c.resize.new.self.len = omega (arith, c.deref_mut.ensures.len, c.read_on.auto.buffer) in
    let whole : take c.resize.new.self.len (buffer ++ drop (length buffer) c.resize.new.self.items) ≡ buffer = loaned c.resize.new.self.len buffer c.resize.new.self.items (sym long) in
    let front : take c.loop-bytes.done buffer ≡ take c.loop-bytes.done old =
    front_kept c.loop-bytes.done (c.loop-bytes.done + 65536) buffer c.deref_mut.result.now c.resize.new.self.items old _
    c.read_on.ensures.front c.deref_mut.ensures.value c.in-Ok.ensures.items (omega arith) c.loop-bytes.invariant.3 in
    let known = as_before (g.S.Shelf.told c.args.shelf.now) c.args.name.now old buffer c.loop-bytes.done front c.loop-bytes.invariant.4 in
    let reads = retold c.args.name.now (drop c.loop-bytes.done buffer) c.loop-bytes.done c.in-Ok-read_on.count c.loop-bytes.invariant.0 c.in-Ok-read_on.ensures.bytes in
    let room : c.loop-bytes.done + 1 ≤ length buffer = omega (arith, c.in-Ok.ensures.len, long) in
    rw (c.truncate.ensures.items, whole) (read_to_end (g.S.Shelf.told c.args.shelf.now) c.args.name.now buffer c.loop-bytes.done c.in-Ok-read_on.count reads c.if-count-eq0.true (omega arith) known)

pub returns-then-done-limit-clause-large : goal.returns-then-done-limit-clause-large
returns-then-done-limit-clause-large g c = λ _.
    let old = c.loop-bytes.bytes.items in
    let buffer = c.read_on.new.buffer in
    let long : length buffer ≡ c.resize.new.self.len = omega (arith, c.deref_mut.ensures.len, c.read_on.auto.buffer) in
    let whole : take c.resize.new.self.len (buffer ++ drop (length buffer) c.resize.new.self.items) ≡ buffer = loaned c.resize.new.self.len buffer c.resize.new.self.items (sym long) in
    let front : take c.loop-bytes.done buffer ≡ take c.loop-bytes.done old =
    front_kept c.loop-bytes.done (c.loop-bytes.done + 65536) buffer c.deref_mut.result.now c.resize.new.self.items old _
    c.read_on.ensures.front c.deref_mut.ensures.value c.in-Ok.ensures.items (omega arith) c.loop-bytes.invariant.3 in
    let known = as_before (g.S.Shelf.told c.args.shelf.now) c.args.name.now old buffer c.loop-bytes.done front c.loop-bytes.invariant.4 in
    let reads = retold c.args.name.now (drop c.loop-bytes.done buffer) c.loop-bytes.done c.in-Ok-read_on.count c.loop-bytes.invariant.0 c.in-Ok-read_on.ensures.bytes in
    let more = turn (g.S.Shelf.told c.args.shelf.now) c.args.name.now buffer c.loop-bytes.done c.in-Ok-read_on.count reads known in
    too_large (g.S.Shelf.told c.args.shelf.now) c.args.name.now buffer (c.loop-bytes.done + c.in-Ok-read_on.count) c.args.limit c.if-done-limit.true
    (omega (arith, c.in-Ok-read_on.ensures.bound, c.read_on.auto.buffer)) more
