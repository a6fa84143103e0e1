use Rattle.std.proofs.Common.{◌≡◌, ◌+◌, ◌-◌, ◌≤◌, true, true≢false, refl, sym, ap, subst, ◌∙◌, arith}
use Rattle.std.specs.Prelude.{is_some}
use Rattle.mesh_definitions.specs.Field.{Field}
use Rattle.mesh_definitions.specs.Mesh.{surveyed}
use Rattle.mesh_definitions.specs.Ground.Gives.{Open}
use Rattle.mesh_definitions.specs.Pieces.{least_band, greatest_band}
use Rattle.plane_geom.specs.Geom.{IsOn}
use Rattle.tri_mesh.specs.Fields.{field_in}
use Rattle.tri_mesh.specs.Triangles.{AreBands}
use Rattle.tri_mesh.proofs.Depths.{Passed, passed_none, passed_more, passed_all, off_passed, on_chord}
use Rattle.tri_mesh.proofs.classes.class_in.Goals as goal

pub returns-in_default-clause-gives : goal.returns-in_default-clause-gives
returns-in_default-clause-gives c = Open (sym c.bands.ensures.data ∙ ap is_some c.in_default.is)

pub loop-k-init : goal.loop-k-init
loop-k-init c =
    let f : Field = field_in c.args.ch.now c.args.levels.now in
    let h : AreBands f c.args.tri c.in-Some.bands = c.in-Some.ensures.bands in
    record { passed = passed_none f c.args.tri c.args.p _ _ (omega arith) (c.least-first.ensures ∙ h.least); small = omega arith }

pub loop-k-preserved : goal.loop-k-preserved
loop-k-preserved c =
    let f : Field = field_in c.args.ch.now c.args.levels.now in
    let t = c.args.tri in
    let h : AreBands f t c.in-Some.bands = c.in-Some.ensures.bands in
    let e = c.least-first.ensures ∙ h.least in
    let first = c.least-first.result in
    let k = c.loop-k.k in
    let off : ¬ (IsOn c.chord_of-s.result c.args.p) = λ on. true≢false (sym (c.on_segment.ensures.1 on) ∙ c.if-on_segment.false) in
    let from : first + 1 ≤ k = c.loop-k.auto.k in
    let one_more : k - (first + 1) + 1 ≡ k + 1 - (first + 1) = omega (arith, from) in
    let here = c.right_of-band.ensures.value in
    let less : c.right_of-band.result ≤ 1 = c.right_of-band.ensures.small in
    record {
      passed = subst (λ n. Passed f t c.args.p n (c.loop-k.band + c.right_of-band.result)) one_more
          (passed_more f t c.args.p c.loop-k.band (k - (first + 1)) k c.right_of-band.result c.chord_of-s.result c.loop-k.invariant.passed (omega (arith, from, e)) c.chord_of-s.ensures here off);
      small = omega (arith, less, c.loop-k.invariant.small);
    }

pub returns-then-on_segment-clause-none : goal.returns-then-on_segment-clause-none
returns-then-on_segment-clause-none c =
    let f : Field = field_in c.args.ch.now c.args.levels.now in
    let t = c.args.tri in
    let h : AreBands f t c.in-Some.bands = c.in-Some.ensures.bands in
    let known : surveyed f t ≡ true = sym c.bands.ensures.data ∙ ap is_some c.in-Some.is in
    let e = c.least-first.ensures ∙ h.least in
    let g = c.greatest-k-end.ensures ∙ h.greatest in
    let k = c.loop-k.k in
    let on : IsOn c.chord_of-s.result c.args.p = c.on_segment.ensures.0 c.if-on_segment.true in
    (λ _. on_chord f t c.args.p c.chord_of-s.result k known (omega (arith, e, c.loop-k.auto.k)) (omega (arith, g, c.loop-k-test.true)) c.chord_of-s.ensures on, λ _. refl)

pub returns-clause-none : goal.returns-clause-none
returns-clause-none c =
    let f : Field = field_in c.args.ch.now c.args.levels.now in
    let t = c.args.tri in
    let h : AreBands f t c.in-Some.bands = c.in-Some.ensures.bands in
    let known : surveyed f t ≡ true = sym c.bands.ensures.data ∙ ap is_some c.in-Some.is in
    let e = c.least-first.ensures ∙ h.least in
    let g = c.greatest-k-end.ensures ∙ h.greatest in
    let ordered : c.least-first.result ≤ c.greatest-k-end.result = omega (arith, c.least-first.ensures, c.greatest-k-end.ensures) in
    let n : c.loop-k.k - (c.least-first.result + 1) ≡ greatest_band f t + 1 - (least_band f t + 1) = omega (arith, e, g, ordered, c.loop-k-test.false, c.loop-k.auto.k-end) in
    (λ none. absurd (cc (none)), λ on. absurd (off_passed f t c.args.p c.loop-k.band _ known n c.loop-k.invariant.passed on))

pub returns-clause-gives : goal.returns-clause-gives
returns-clause-gives c =
    let f : Field = field_in c.args.ch.now c.args.levels.now in
    let t = c.args.tri in
    let h : AreBands f t c.in-Some.bands = c.in-Some.ensures.bands in
    let known : surveyed f t ≡ true = sym c.bands.ensures.data ∙ ap is_some c.in-Some.is in
    let e = c.least-first.ensures ∙ h.least in
    let g = c.greatest-k-end.ensures ∙ h.greatest in
    let ordered : c.least-first.result ≤ c.greatest-k-end.result = omega (arith, c.least-first.ensures, c.greatest-k-end.ensures) in
    let n : c.loop-k.k - (c.least-first.result + 1) ≡ greatest_band f t + 1 - (least_band f t + 1) = omega (arith, e, g, ordered, c.loop-k-test.false, c.loop-k.auto.k-end) in
    passed_all f t c.args.p c.loop-k.band _ known n c.loop-k.invariant.passed
