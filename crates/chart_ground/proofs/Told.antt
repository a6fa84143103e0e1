-- What the answer at a point is, by what the mesh tells of it.
use Rattle.std.proofs.Common.{◌≡◌, ◌↔◌, ℕ, ℤ, List, refl, subst}
use Rattle.mesh_definitions.specs.Field.{InCoverage, field_of}
use Rattle.mesh_definitions.specs.Ground.{IsGround}
use Rattle.mesh_definitions.specs.Ranges.{IsRange}
use Rattle.mesh_definitions.specs.declared.Class.TheVariants as class
use Rattle.mesh_definitions.specs.declared.Class.{Class}
use Rattle.chart_ground.specs.Answers.{HasDepths, IsAnswer}
use Rattle.chart_ground.specs.declared.answer.GroundAt.TheVariants as answer
use Rattle.plane_geom.specs.declared.Point.{Point}
use Rattle.shoal_buffer.specs.Charted.{ChartedView}
use Rattle.tri_mesh.specs.Lines.{OnDrawn}
use Rattle.tri_mesh.specs.declared.kinds.Ground.TheVariants.{Outside, Line, Inside}
use Rattle.tri_mesh.specs.declared.kinds.Ground.{Ground}

-- what the mesh tells of a point
pub record IsTold (v : ChartedView) (levels : List ℤ) (block : ℕ → ℕ → ℕ) (p : Point) (told : Ground) : Type 0 where
  pub outside : (told ≡ Outside) ↔ (¬ (InCoverage (field_of v levels) p))
  pub line : (told ≡ Line) ↔ OnDrawn (field_of v levels) block p
  pub inside : (K : Class) → told ≡ Inside K → IsGround (field_of v levels) p K

module _ (v : ChartedView) (levels : List ℤ) (block : ℕ → ℕ → ℕ) (p : Point) where
  pub told_outside : IsTold v levels block p Outside → IsAnswer v levels block p answer.Outside
  told_outside h = record {
    outside = (λ e. h.outside.0 refl, λ n. refl);
    edge = (λ e. absurd (let w : answer.Outside ≡ answer.Edge = e in cc), λ d. absurd (let w : Outside ≡ Line = h.line.1 d in cc));
    depth = λ low high e. absurd (let w : answer.Outside ≡ answer.Depth low high = e in cc);
    unsurveyed = λ e. absurd (let w : answer.Outside ≡ answer.Unsurveyed = e in cc);
  }

  pub told_line : IsTold v levels block p Line → IsAnswer v levels block p answer.Edge
  told_line h = record {
    outside = (λ e. absurd (let w : answer.Edge ≡ answer.Outside = e in cc), λ n. absurd (let w : Line ≡ Outside = h.outside.1 n in cc));
    edge = (λ e. h.line.0 refl, λ d. refl);
    depth = λ low high e. absurd (let w : answer.Edge ≡ answer.Depth low high = e in cc);
    unsurveyed = λ e. absurd (let w : answer.Edge ≡ answer.Unsurveyed = e in cc);
  }

  pub told_unsurveyed : IsTold v levels block p (Inside class.Unsurveyed) → IsAnswer v levels block p answer.Unsurveyed
  told_unsurveyed h = record {
    outside = (λ e. absurd (let w : answer.Unsurveyed ≡ answer.Outside = e in cc), λ n. absurd (let w : Inside class.Unsurveyed ≡ Outside = h.outside.1 n in cc));
    edge = (λ e. absurd (let w : answer.Unsurveyed ≡ answer.Edge = e in cc), λ d. absurd (let w : Inside class.Unsurveyed ≡ Line = h.line.1 d in cc));
    depth = λ low high e. absurd (let w : answer.Unsurveyed ≡ answer.Depth low high = e in cc);
    unsurveyed = λ e. h.inside class.Unsurveyed refl;
  }

  -- the ends of the band that the mesh tells
  pub told_band : (band : ℕ) (low high : ℤ) → IsTold v levels block p (Inside (class.Band band)) → IsRange v levels band low high → IsAnswer v levels block p (answer.Depth low high)
  told_band band low high h r = record {
    outside = (λ e. absurd (let w : answer.Depth low high ≡ answer.Outside = e in cc), λ n. absurd (let w : Inside (class.Band band) ≡ Outside = h.outside.1 n in cc));
    edge = (λ e. absurd (let w : answer.Depth low high ≡ answer.Edge = e in cc), λ d. absurd (let w : Inside (class.Band band) ≡ Line = h.line.1 d in cc));
    depth = λ lower higher e.
        let w : answer.Depth low high ≡ answer.Depth lower higher = e in
        let same_low : low ≡ lower = cc in
        let same_high : high ≡ higher = cc in
        subst (λ z. HasDepths v levels p z higher) same_low (subst (λ z. HasDepths v levels p low z) same_high (record { band = band; is = h.inside (class.Band band) refl; range = r }));
    unsurveyed = λ e. absurd (let w : answer.Depth low high ≡ answer.Unsurveyed = e in cc);
  }
