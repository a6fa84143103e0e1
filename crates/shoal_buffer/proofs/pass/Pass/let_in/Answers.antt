use Rattle.std.proofs.Common.{◌+◌, ◌++◌, ◌∷◌, [], length, sym, subst, arith}
use Rattle.circular_buffer.specs.Buffer.{keep_last}
use Rattle.shoal_buffer.specs.Passes.{IsRowOf, IsWindow}
use Rattle.shoal_buffer.proofs.WindowLemmas.{kept_length, kept_whole, kept_each}
use Rattle.shoal_buffer.proofs.pass.Pass.let_in.Goals as goal

pub returns-clause-window : goal.returns-clause-window
returns-clause-window c =
    let p = c.args.self.now in
    let w = c.args.window.now in
    let old = c.requires.window in
    let xs = w.rows.items in
    let v = c.in_ok-row.row in
    let n = kept_length w.rows.capacity xs v in
    subst (λ b. IsWindow p (record { rows = b; next = w.next + 1 })) (sym c.push_back.ensures.items)
    (record {
      capacity = old.capacity;
      next_in = omega (arith, c.requires.more);
      held = omega (arith, n, old.held);
      whole = kept_whole w.rows.capacity w.next (length xs) (length (keep_last w.rows.capacity (xs ++ v ∷ []))) n old.whole;
      each = kept_each (λ i x. IsRowOf p i x.items) w.rows.capacity w.next xs v old.held old.each c.in_ok-row.ensures;
    })
