use Rattle.std.proofs.Common.{◌≡◌, ◌<◌, ℕ, ◌+◌, false, int_lt, int_le, ◌&&◌, ◌||◌, sym, ap, ap₂, subst, ◌∙◌, arith}
use Rattle.std.proofs.lemmas.Bool.{false≢true}
use Rattle.std.proofs.lemmas.List.{get_or_default}
use Rattle.boundary_arcs.specs.ChainEdges.{point_at}
use Rattle.boundary_arcs.proofs.Counted.{still_least, new_least}
use Rattle.boundary_arcs.proofs.Turned.{no_half}
use Rattle.chains.specs.declared.Half.{Half}
use Rattle.chains.specs.Nets.{begin_of, half_at}
use Rattle.mesh_definitions.specs.Edges.{IsFirstOf}
use Rattle.plane_geom.specs.declared.Point.{Point}
use Rattle.boundary_arcs.proofs.closed_chains.least_place.Goals as goal
use Rattle.boundary_arcs.proofs.closed_chains.least_place.Goals.{then-not-comes_first, else-not-comes_first}

pub loop-i-preserved : goal.loop-i-preserved
loop-i-preserved c =
    let f = λ (j : ℕ). point_at c.args.points.now (begin_of c.args.lines.now (half_at c.args.chain.now j)) in
    let test = λ (p q : Point). int_lt p.x q.x || (int_le p.x q.x && int_le p.y q.y) in
    let inv = c.loop-i.invariant in
    let at = λ (h : Half). point_at c.args.points.now (begin_of c.args.lines.now h) in
    let best : c.begin_point-best.result ≡ f c.loop-i.least = c.begin_point-best.ensures ∙ ap at (get_or_default c.args.chain.now c.loop-i.least (record { line = 0; forward = false }) no_half inv.inside) in
    let next : c.begin_point.result ≡ f c.loop-i.i = c.begin_point.ensures ∙ ap at (get_or_default c.args.chain.now c.loop-i.i (record { line = 0; forward = false }) no_half (omega arith)) in
    let same : test (f c.loop-i.least) (f c.loop-i.i) ≡ c.comes_first.result = sym (c.comes_first.ensures ∙ ap₂ test best next) in
    elim c.if-not-comes_first.branch [
      | then-not-comes_first w ↦ record {
        inside = omega (arith, w.least-is);
        least = subst (λ m. (j : ℕ) → j < c.loop-i.i + 1 → IsFirstOf (f m) (f j)) (sym w.least-is) (new_least f c.loop-i.least c.loop-i.i inv.least (λ h. false≢true (sym w.if-not-comes_first.true ∙ sym same ∙ h)));
      }
      | else-not-comes_first w ↦ record {
        inside = omega (arith, w.least-is, inv.inside);
        least = subst (λ m. (j : ℕ) → j < c.loop-i.i + 1 → IsFirstOf (f m) (f j)) (sym w.least-is) (still_least f c.loop-i.least c.loop-i.i inv.least (same ∙ w.if-not-comes_first.false));
      }
    ]
