-- One more segment of a path.
use Rattle.std.proofs.Common.{◌≡◌, ℕ, ◌+◌, ◌<◌, ◌≤◌, Option, Some, List, [], ◌∷◌, ◌++◌, length, drop, get_or, refl, sym, ap, ◌∙◌, append_assoc, append-nil, add-one, drop-cons}
use Rattle.std.proofs.lemmas.List.{drop_all}
use Rattle.chart_picture.specs.Lines.{stroke_text, strokes}
use Rattle.chart_picture.specs.declared.frame.Frame.{Frame}
use Rattle.plane_geom.specs.declared.Point.{Point}
use Rattle.plane_geom.specs.declared.Seg.{Seg}

strokes-cons : (f : Frame) (last : Option Point) (s : Seg) (ss : List Seg) → strokes f last (s ∷ ss) ≡ stroke_text f last s ++ strokes f (Some s.b) ss
unfolding strokes
strokes-cons f last s ss = refl

strokes-nil : (f : Frame) (last : Option Point) → strokes f last [] ≡ []
unfolding strokes
strokes-nil f last = refl

pub one_more : (f : Frame) (last : Option Point) (segs : List Seg) (i : ℕ) (d : Seg) (before after whole : List ℕ) → i < length segs
    → before ++ strokes f last (drop i segs) ≡ whole → after ≡ before ++ stroke_text f last (get_or segs i d)
    → after ++ strokes f (Some (get_or segs i d).b) (drop (i + 1) segs) ≡ whole
one_more f last segs i d before after whole at sofar step =
    ap (λ t. t ++ rest) step
    ∙ append_assoc before (stroke_text f last here) rest
    ∙ ap (λ t. before ++ t) (sym (strokes-cons f last here (drop (i + 1) segs)))
    ∙ ap (λ t. before ++ strokes f last t) (sym split)
    ∙ sofar
  where
    here : Seg
    here = get_or segs i d

    rest : List ℕ
    rest = strokes f (Some here.b) (drop (i + 1) segs)

    split : drop i segs ≡ here ∷ drop (i + 1) segs
    split = rw (add-one, drop-cons segs i d)

pub all_put : (f : Frame) (last : Option Point) (segs : List Seg) (i : ℕ) (out whole : List ℕ) → length segs ≤ i → out ++ strokes f last (drop i segs) ≡ whole → out ≡ whole
all_put f last segs i out whole behind sofar =
    sym (append-nil out) ∙ ap (λ t. out ++ t) (sym (strokes-nil f last)) ∙ ap (λ t. out ++ strokes f last t) (sym (drop_all i segs behind)) ∙ sofar
