use Rattle.std.proofs.Common.{◌≡◌, ◌∙◌, ◌++◌, ◌+◌, ◌-◌, ap, sym, arith, Ok, Err, [], ◌∷◌, length, take, drop, List, rules}
use Rattle.grid_reader.specs.declared.fault.GridFault.{GridFault}
use Rattle.grid_reader.specs.Words.{Word, words}
use Rattle.grid_reader.specs.Values.{depth_of, depths_of}
use Rattle.grid_reader.specs.Spans.{word_of}
use Rattle.grid_reader.proofs.Depths.{with_front, one_more, one_bad, bad_nodes, short_nodes, behind_one, none_behind, nothing_taken}
use Rattle.readings.proofs.Steps.{unless}
use Rattle.grid_reader.specs.Reading.{is_memory}
use Rattle.grid_reader.proofs.values.read_depths.Goals as goal

pub returns-in_err-depth-in-Some : goal.returns-in_err-depth-in-Some
returns-in_err-depth-in-Some c =
    let text = c.args.text.now in
    let us : List Word = words c.loop-found.at (drop c.loop-found.at text) in
    let all : List Word = words c.args.from (drop c.args.from text) in
    let word = word_of text c.in-Some.word in
    let fault : GridFault = c.in_err-depth-in-Some.field-0.0 in
    let bad : depth_of c.args.sense c.args.nodata.now word ≡ Err fault = sym c.read_depth.ensures ∙ c.in_err-depth-in-Some.was in
    let first : with_front c.loop-found.depths.items (depths_of c.args.sense c.args.nodata.now (take (c.args.nodes - c.loop-found.found) us)) ≡ Err fault =
    one_bad c.args.sense c.args.nodata.now c.loop-found.depths.items fault word us (words c.in-Some.word.end (drop c.in-Some.word.end text)) c.args.nodes c.loop-found.found c.in-Some.ensures.word c.loop-found-test.true bad in
    let given = bad_nodes c.args.sense c.args.nodata.now fault c.args.nodes all (c.loop-found.invariant.depths ∙ first) in
    let returned : c.from_residual-in_err-depth-in-Some.result ≡ Err fault = search rules in
    rw returned (unless (is_memory fault) given)

pub returns-in-None : goal.returns-in-None
returns-in-None c =
    let text = c.args.text.now in
    let us : List Word = words c.loop-found.at (drop c.loop-found.at text) in
    let none : us ≡ [] = c.in-None.ensures.none in
    let left = c.args.nodes - c.loop-found.found in
    let inv = c.loop-found.invariant in
    let front = c.loop-found.depths.items in
    short_nodes c.args.sense c.args.nodata.now (front ++ []) c.loop-found.found c.args.nodes (words c.args.from (drop c.args.from text))
    (inv.depths ∙ ap (λ ws. with_front front (depths_of c.args.sense c.args.nodata.now ws)) (nothing_taken left us none))
    (inv.behind ∙ none_behind left us none)
    (inv.count ∙ ap (λ ws. c.loop-found.found + length ws) none ∙ omega arith)
    c.loop-found-test.true

pub loop-found-preserved : goal.loop-found-preserved
loop-found-preserved c =
    let text = c.args.text.now in
    let us : List Word = words c.loop-found.at (drop c.loop-found.at text) in
    let ws : List Word = words c.in-Some.word.end (drop c.in-Some.word.end text) in
    let word = word_of text c.in-Some.word in
    let front = c.loop-found.depths.items in
    let inv = c.loop-found.invariant in
    let depth = c.in_ok-depth-in-Some.depth in
    let good : depth_of c.args.sense c.args.nodata.now word ≡ Ok depth = sym c.read_depth.ensures ∙ c.in_ok-depth-in-Some.was in
    let pushed : c.push.new.self.items ≡ front ++ depth ∷ [] = c.in_ok-push-in-Some.ensures.items in
    let split : us ≡ word ∷ ws = c.in-Some.ensures.word in
    let rest = depths_of c.args.sense c.args.nodata.now (take (c.args.nodes - (c.loop-found.found + 1)) ws) in
    record {
      within = omega (arith, c.in-Some.ensures.span);
      depths = inv.depths ∙ one_more c.args.sense c.args.nodata.now front depth word us ws c.args.nodes c.loop-found.found split c.loop-found-test.true good ∙ ap (λ ds. with_front ds rest) (sym pushed);
      behind = inv.behind ∙ behind_one word us ws c.args.nodes c.loop-found.found split c.loop-found-test.true;
      count = inv.count ∙ ap (λ vs. c.loop-found.found + length vs) split ∙ omega arith;
    }
