use Rattle.std.proofs.Common.{◌+◌, ◌≤◌, ◌⊎◌, ⊎_elim, ℕ, length, ◌∙◌, ap, sym, subst, refl, arith, rules}
use Rattle.std.proofs.lemmas.List.{with_items_is}
use Rattle.shoal_buffer.specs.Cores.{AreLeastKeys}
use Rattle.shoal_buffer.specs.Passes.{node_key}
use Rattle.shoal_buffer.proofs.CoreLemmas.{cores_south, cores_no_south}
use Rattle.shoal_buffer.proofs.pass.Pass.take_south.Goals as goal

le_or : (a b : ℕ) → (a ≤ b) ⊎ (b + 1 ≤ a)
le_or a b = grind arith

pub returns-in-Some-clause-cores : goal.returns-in-Some-clause-cores
returns-in-Some-clause-cores c =
    let p = c.args.self.now in
    let d = p.discs in
    let cs = c.args.cores.now in
    let e = with_items_is cs.least c.take_in.new.least (c.take_in.ensures.full ∙ ap length c.deref_mut.ensures.value ∙ sym cs.least.ok.0) in
    record {
      row_in = c.requires.cores.row_in;
      spare = c.requires.cores.spare;
      keys = subst (AreLeastKeys (node_key p) d.rows d.cols d.reach.aspect d.reach.radius cs.north (cs.south + 1) cs.reserve cs.row) (sym e)
          (cores_south d.rows d.cols d.reach.aspect d.reach.radius (node_key p) cs.north cs.south cs.reserve cs.row (cs.row + (cs.south + 1)) cs.least.items c.deref_mut.result.now c.in-Some.row.now c.take_in.new.least c.deref_mut.ensures.value c.in-Some.ensures.row refl c.requires.chord c.take_in.ensures.full c.take_in.ensures.each c.requires.cores.keys);
    }

pub returns-in_default-clause-cores : goal.returns-in_default-clause-cores
returns-in_default-clause-cores c =
    let p = c.args.self.now in
    let d = p.discs in
    let cs = c.args.cores.now in
    let beyond : d.rows ≤ cs.row + (cs.south + 1) = ⊎_elim
    (λ h. h)
    (λ k.
    let n = c.requires.window.north cs.row (omega arith) (omega arith) in
    let s = c.requires.window.south (cs.row + (cs.south + 1)) (omega (arith, k)) (omega (arith, c.requires.near)) in
    absurd (⊎_elim (λ h. omega (arith, h, n)) (λ h. omega (arith, h, s)) (c.in_default.ensures.none (search rules))))
    (le_or d.rows (cs.row + (cs.south + 1))) in
    record { row_in = c.requires.cores.row_in; spare = c.requires.cores.spare; keys = cores_no_south d.rows d.cols d.reach.aspect d.reach.radius (node_key p) cs.north cs.south cs.reserve cs.row cs.least.items beyond c.requires.cores.keys }
