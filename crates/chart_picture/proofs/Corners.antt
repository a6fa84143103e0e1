-- Paths along points.
use Rattle.std.proofs.Common.{◌≡◌, true, ◌&&◌, cond, Some, None, List, [], ◌∷◌, ◌++◌, refl, ap, ap₂, ◌∙◌, append_assoc, arith}
use Rattle.std.proofs.lemmas.Int.{ints}
use Rattle.std.specs.Prelude.{codes, ℤ, int_le}
use Rattle.std.specs.List.{flat_map}
use Rattle.chart_picture.specs.Laws.{corner_text, PathsHaveCorners}
use Rattle.chart_picture.specs.Lines.{begin_text, is_same, place_text, stroke_text, strokes}
use Rattle.chart_picture.specs.declared.frame.Frame.{Frame}
use Rattle.plane_geom.specs.Segments.{joins}
use Rattle.plane_geom.specs.declared.Point.{Point}

itself : (x : ℤ) → int_le x x ≡ true
itself x = first_of (grind (arith, ints), omega (arith, ints), search (arith, ints))

same_itself : (p : Point) → is_same p p ≡ true
unfolding is_same
same_itself p = ap₂ (λ a b. (a && a) && (b && b)) (itself p.x) (itself p.y)

-- a stroke that goes on from its beginning
goes_on : (f : Frame) (p q : Point) → stroke_text f (Some p) (record { a = p; b = q }) ≡ corner_text f q
unfolding stroke_text begin_text
goes_on f p q = ap (λ b. cond b [] (codes "M" ++ place_text f p) ++ corner_text f q) (same_itself p)

along : (f : Frame) (p : Point) (ps : List Point) → strokes f (Some p) (joins (p ∷ ps)) ≡ flat_map (corner_text f) ps
unfolding strokes
along f p [] = refl
along f p (q ∷ ps) = ap₂ (λ a b. a ++ b) (goes_on f p q) (along f q ps)

begins : (f : Frame) (p q : Point) → stroke_text f None (record { a = p; b = q }) ≡ (codes "M" ++ place_text f p) ++ corner_text f q
unfolding stroke_text begin_text
begins f p q = refl

pub corners : PathsHaveCorners
unfolding strokes
corners f p q ps =
    ap₂ (λ a b. a ++ b) (begins f p q) (along f q ps)
    ∙ append_assoc (codes "M" ++ place_text f p) (corner_text f q) (flat_map (corner_text f) ps)
