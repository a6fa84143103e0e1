-- Where a chart truly has a point, its grid and sheet have an answer there.
use Rattle.std.proofs.Common.{◌≡◌, ℕ, ℤ, List, refl, subst₂}
use Rattle.mesh_definitions.specs.Faces.{OnLine}
use Rattle.mesh_definitions.specs.Field.{Field, InCoverage, IsField, field_of}
use Rattle.mesh_definitions.specs.Ground.{IsGround}
use Rattle.mesh_definitions.specs.Pieces.{Mesh, whole_mesh}
use Rattle.mesh_definitions.specs.Ranges.{IsRange}
use Rattle.mesh_definitions.specs.declared.Class.TheVariants as class
use Rattle.mesh_definitions.specs.declared.Class.{Class}
use Rattle.chart_ground.specs.Answers.{HasDepths, IsAnswer}
use Rattle.chart_ground.specs.declared.answer.GroundAt.TheVariants.{Outside, Edge, Depth, Unsurveyed}
use Rattle.chart_ground.specs.declared.answer.GroundAt.{GroundAt}
use Rattle.chart_definitions.specs.Areas.{IsAreaOf}
use Rattle.chart_model.specs.declared.records.Feature.{Feature}
use Rattle.chart_model.specs.declared.records.Parts.{Parts}
use Rattle.chart_query.specs.declared.answer.Place.{Place}
use Rattle.plane_geom.specs.declared.Point.{Point}
use Rattle.shoal_buffer.specs.Charted.{ChartedView}
use Rattle.tri_mesh.specs.Lines.{OnDrawn}
use Rattle.point_laws.specs.Lines.{DrawnAreLines}
use Rattle.point_laws.specs.Places.IsPlaceOf.{OnALine, Beyond, InArea}
use Rattle.point_laws.specs.Places.{IsPlaceOf}

-- drawn lines are those of the mesh, and none lies beyond the coverage
module _ (lines : DrawnAreLines) (v : ChartedView) (levels : List ℤ) (h : IsField (field_of v levels)) (block : ℕ → ℕ → ℕ) (p : Point)
    (kept : ¬ (InCoverage (field_of v levels) p) → ¬ (OnLine (whole_mesh (field_of v levels) block) p)) where
  abbrev f : Field
  f = field_of v levels

  abbrev m : Mesh
  m = whole_mesh f block

  line_drawn : OnLine m p → OnDrawn f block p
  line_drawn on = (lines f block h p).1 on

  drawn_line : OnDrawn f block p → OnLine m p
  drawn_line on = (lines f block h p).0 on

  -- on a line the answer is an edge
  edge_there : OnLine m p → IsAnswer v levels block p Edge
  edge_there on = record {
    outside = (λ e. absurd (cc (e)), λ out. absurd (kept out on));
    edge = (λ e. line_drawn on, λ d. refl);
    depth = λ low high e. absurd (cc (e));
    unsurveyed = λ e. absurd (cc (e));
  }

  -- beyond the coverage it is outside
  outside_there : ¬ (OnLine m p) → ¬ (InCoverage f p) → IsAnswer v levels block p Outside
  outside_there off out = record {
    outside = (λ e. out, λ o. refl);
    edge = (λ e. absurd (cc (e)), λ d. absurd (off (drawn_line d)));
    depth = λ low high e. absurd (cc (e));
    unsurveyed = λ e. absurd (cc (e));
  }

  -- off the lines and within the coverage
  module _ (off : ¬ (OnLine m p)) (within : InCoverage f p) where
    -- it is unsurveyed where the ground is
    unsurveyed_there : IsGround f p class.Unsurveyed → IsAnswer v levels block p Unsurveyed
    unsurveyed_there is = record {
      outside = (λ e. absurd (cc (e)), λ out. absurd (out within));
      edge = (λ e. absurd (cc (e)), λ d. absurd (off (drawn_line d)));
      depth = λ low high e. absurd (cc (e));
      unsurveyed = λ e. is;
    }

    -- and else the range of the band of the ground
    depth_there : (b : ℕ) (low high : ℤ) → IsGround f p (class.Band b) → IsRange v levels b low high → IsAnswer v levels block p (Depth low high)
    depth_there b low high is range = record {
      outside = (λ e. absurd (cc (e)), λ out. absurd (out within));
      edge = (λ e. absurd (cc (e)), λ d. absurd (off (drawn_line d)));
      depth = only;
      unsurveyed = λ e. absurd (cc (e));
    }
      where
        here : HasDepths v levels p low high
        here = record { band = b; is = is; range = range }

        only : (l u : ℤ) → Depth low high ≡ Depth l u → HasDepths v levels p l u
        only l u e = let same_low : low ≡ l = cc (e) in let same_high : high ≡ u = cc (e) in subst₂ (HasDepths v levels p) same_low same_high here

    -- so it is told by the class of the ground that an area tells
    area_there : (K : Class) (a : Feature) → IsGround f p K → IsAreaOf v levels K a → (answer : GroundAt) × IsAnswer v levels block p answer
    area_there class.Unsurveyed a is tells = (Unsurveyed, unsurveyed_there is)
    area_there (class.Band b) a is tells = (Depth tells.0 tells.1, depth_there b tells.0 tells.1 is tells.2)

  -- wherever a chart truly has the point, there is an answer
  pub answer_there : (c : Parts) (here : Place) → IsPlaceOf f v m c p here → (answer : GroundAt) × IsAnswer v levels block p answer
  answer_there c here (OnALine on) = (Edge, edge_there on)
  answer_there c here (Beyond off out) = (Outside, outside_there off out)
  answer_there c here (InArea off within k a at K real tells) = area_there off within K a real tells
