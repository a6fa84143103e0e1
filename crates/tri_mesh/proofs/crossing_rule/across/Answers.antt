use Rattle.std.proofs.Common.{◌≡◌, ◌<◌, ⊎_elim, inl, inr, subst, sym, rules}
use Rattle.std.specs.Prelude.{unsigned_abs, ◌-ℤ◌}
use Rattle.std.specs.Int.{◌∣◌}
use Rattle.depth_grid.specs.Grid.{place}
use Rattle.tri_mesh.proofs.Divisors.{apart_by, far, compared}
use Rattle.tri_mesh.proofs.crossing_rule.across.Goals as goal

pub returns-clause-whole : goal.returns-clause-whole
returns-clause-whole c =
    let zs = c.args.grid.now.xs.items in
    let value : c.abs_diff.result ≡ unsigned_abs (place zs c.args.b -ℤ place zs c.args.a) = search rules in
    subst (λ n. 32 ∣ n) (sym value) (apart_by (place zs c.args.a) (place zs c.args.b) (c.args.grid.now.columns.whole c.args.a c.requires.a) (c.args.grid.now.columns.whole c.args.b c.requires.b))

pub returns-clause-some : goal.returns-clause-some
returns-clause-some c =
    let zs = c.args.grid.now.xs.items in
    let value : c.abs_diff.result ≡ unsigned_abs (place zs c.args.b -ℤ place zs c.args.a) = search rules in
    ⊎_elim inl (λ h. inr (subst (λ n. 0 < n) (sym value) (far (place zs c.args.a) (place zs c.args.b) (⊎_elim (λ k. inl (c.args.grid.now.eastwards c.args.a c.args.b k c.requires.b)) (λ k. inr (c.args.grid.now.eastwards c.args.b c.args.a k c.requires.a)) h)))) (compared c.args.a c.args.b)
