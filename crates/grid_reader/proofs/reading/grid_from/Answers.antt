use Rattle.std.proofs.Common.{◌≡◌, ◌∙◌, ◌*◌, ◌≤◌, ap₂, arith, length, drop, mul-le-mul, sym, subst}
use Rattle.depth_grid.specs.Grid.{AreDepths}
use Rattle.grid_reader.specs.Words.{words}
use Rattle.grid_reader.specs.Shape.{Lines, StepsUp, StepsDown}
use Rattle.grid_reader.proofs.Placed.{rises, falls}
use Rattle.grid_reader.proofs.Facts.{AreLines, found_lines, good_depths}
use Rattle.grid_reader.proofs.reading.grid_from.Goals as goal

lines_of : (c : goal.In_ok-depths) → AreLines (let lines : Lines = record { xs = c.in_ok-places.places.xs.items; ys = c.in_ok-places.places.ys.items } in lines)
lines_of c = found_lines c.args.header.found (record { xs = c.in_ok-places.places.xs.items; ys = c.in_ok-places.places.ys.items }) c.in_ok-places.ensures

depths_of : (c : goal.In_ok-depths) → (length c.in_ok-depths.depths.items ≡ c.len.result * c.len-2.result) × AreDepths c.in_ok-depths.depths.items
depths_of c = good_depths c.args.positive c.nodata-nodata.result (c.len.result * c.len-2.result) (words c.args.header.end (drop c.args.header.end c.args.text.now)) c.in_ok-depths.depths.items c.in_ok-depths.ensures

pub overflow_mul-nodes : goal.overflow_mul-nodes
overflow_mul-nodes c =
    let lines : AreLines (let lines : Lines = record { xs = c.in_ok-places.places.xs.items; ys = c.in_ok-places.places.ys.items } in lines) =
    found_lines c.args.header.found (record { xs = c.in_ok-places.places.xs.items; ys = c.in_ok-places.places.ys.items }) c.in_ok-places.ensures in
    let rows : c.len.result ≤ 1025 = omega (arith, lines.ys.few, c.len.ensures, c.in_ok-places.places.ys.ok.0) in
    let cols : c.len-2.result ≤ 1025 = omega (arith, lines.xs.places.few, c.len-2.ensures, c.in_ok-places.places.xs.ok.0) in
    let few : c.len.result * c.len-2.result ≤ 1025 * 1025 = mul-le-mul rows cols in
    record { fits = omega arith }

pub new-requires-clause-columns : goal.new-requires-clause-columns
new-requires-clause-columns c = (lines_of c).xs.places

pub new-requires-clause-rows : goal.new-requires-clause-rows
new-requires-clause-rows c = (lines_of c).ys

pub new-requires-clause-eastwards : goal.new-requires-clause-eastwards
new-requires-clause-eastwards c = rises c.in_ok-places.places.xs.items (lines_of c).xs.steps

pub new-requires-clause-southwards : goal.new-requires-clause-southwards
new-requires-clause-southwards c = falls c.in_ok-places.places.ys.items (lines_of c).steps

pub new-requires-clause-full : goal.new-requires-clause-full
new-requires-clause-full c =
    let rows : c.len.result ≡ length c.in_ok-places.places.ys.items = omega (arith, c.len.ensures, c.in_ok-places.places.ys.ok.0) in
    let cols : c.len-2.result ≡ length c.in_ok-places.places.xs.items = omega (arith, c.len-2.ensures, c.in_ok-places.places.xs.ok.0) in
    (depths_of c).0 ∙ ap₂ (λ a b. a * b) rows cols

pub new-requires-clause-limited : goal.new-requires-clause-limited
new-requires-clause-limited c = (depths_of c).1

steps_of : (c : goal.After-new) → AreLines (let lines : Lines = record { xs = c.in_ok-places.places.xs.items; ys = c.in_ok-places.places.ys.items } in lines)
steps_of c = found_lines c.args.header.found (record { xs = c.in_ok-places.places.xs.items; ys = c.in_ok-places.places.ys.items }) c.in_ok-places.ensures

pub returns-clause-apart : goal.returns-clause-apart
returns-clause-apart c = (subst StepsUp (sym c.new.ensures.xs) (steps_of c).xs.steps, subst StepsDown (sym c.new.ensures.ys) (steps_of c).steps)
