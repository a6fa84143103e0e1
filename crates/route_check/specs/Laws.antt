-- Laws of the areas of whole charts, and of legs.
use Rattle.std.specs.Prelude.{◌≡◌, ◌↔◌, ℕ, Some, slice_get}
use Rattle.chart_model.specs.Lines.{area_segments}
use Rattle.chart_model.specs.Whole.{IsWhole}
use Rattle.chart_model.specs.declared.records.Feature.{Feature}
use Rattle.chart_model.specs.declared.records.Parts.{Parts}
use Rattle.exact_num.specs.Number.{Number}
use Rattle.plane_geom.specs.declared.Seg.{Seg}
use Rattle.plane_strips.specs.Legs.{IsClosed}
use Rattle.s57_codes.specs.Catalogue.{prim_area}
use Rattle.route_check.specs.Answer.{leg_of}
use Rattle.route_check.specs.Legs.{IsFirstInside, IsFirstMet, IsLeg, IsUntouched}
use Rattle.route_check.specs.declared.answer.Leg.TheVariants.{Clear, Inside, Touched}
use Rattle.route_check.specs.declared.answer.Leg.{Leg}

-- in a whole chart every point is the end of an even number of an area's segments
abbrev pub AreasAreClosed : Type 0
AreasAreClosed = (c : Parts) (k : ℕ) (f : Feature) → IsWhole c → slice_get c.features k ≡ Some f → f.prim ≡ prim_area → IsClosed (area_segments c f)

-- x says exactly where a leg meets segments, begins inside an area, and is clear
pub record IsJudged (c : Parts) (depth : Number) (leg : Seg) (x : Leg) : Type 0 where
  pub touched : (f k : ℕ) → (x ≡ Touched f k) ↔ IsFirstMet c depth leg f k
  pub inside : (f : ℕ) → (x ≡ Inside f) ↔ IsFirstInside c depth leg f
  pub clear : (x ≡ Clear) ↔ IsUntouched c depth leg
  -- the same, computed
  pub computed : x ≡ leg_of c depth leg

-- in a whole chart what is so of a leg is judged so: it is clear exactly where no rational point of it touches an unsafe area
abbrev pub LegsAreJudged : Type 0
LegsAreJudged = (c : Parts) (depth : Number) (leg : Seg) (x : Leg) → IsWhole c → IsLeg c depth leg x → IsJudged c depth leg x
