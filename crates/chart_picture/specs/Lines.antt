-- Areas and contours as paths.
use Rattle.std.specs.Prelude.{codes, ℕ, Bool, ◌&&◌, cond, int_le, List, [], ◌∷◌, ◌++◌, Option, Some, None, decimal}
use Rattle.chart_model.specs.Lines.{area_segments}
use Rattle.chart_model.specs.declared.records.Feature.{Feature}
use Rattle.chart_model.specs.declared.records.Parts.{Parts}
use Rattle.chart_picture.specs.Colours.{fill_of}
use Rattle.chart_picture.specs.Frames.{right_of, down_of}
use Rattle.chart_picture.specs.Titles.{area_title, contour_title}
use Rattle.chart_picture.specs.declared.frame.Frame.{Frame}
use Rattle.plane_geom.specs.declared.Point.{Point}
use Rattle.plane_geom.specs.declared.Seg.{Seg}

unfoldable pub place_text : Frame → Point → List ℕ
place_text f p = decimal (right_of f p.x) ++ (codes " " ++ decimal (down_of f p.y))

unfoldable pub is_same : Point → Point → Bool
is_same p q = (int_le p.x q.x && int_le q.x p.x) && (int_le p.y q.y && int_le q.y p.y)

-- a line begins anew where it doesn't go on from the last point
unfoldable pub begin_text : Frame → Option Point → Point → List ℕ
begin_text f None p = codes "M" ++ place_text f p
begin_text f (Some last) p = cond (is_same last p) [] (codes "M" ++ place_text f p)

unfoldable pub stroke_text : Frame → Option Point → Seg → List ℕ
stroke_text f last s = begin_text f last s.a ++ (codes "L" ++ place_text f s.b)

-- segments, where the line so far ended at a point
unfoldable pub strokes : Frame → Option Point → List Seg → List ℕ
strokes f last [] = []
strokes f last (s ∷ ss) = stroke_text f last s ++ strokes f (Some s.b) ss

-- a path of segments in a style, and what is shown where one points at it
unfoldable pub line_text : List ℕ → Frame → List Seg → List ℕ
line_text style f segments = codes "<path " ++ (style ++ (codes "\" d=\"" ++ strokes f None segments))

unfoldable pub title_text : List ℕ → List ℕ
title_text title = codes "\"><title>" ++ (title ++ codes "</title></path>\n")

unfoldable pub area_path : Frame → Feature → List Seg → List ℕ
area_path f it segments = line_text (fill_of it) f segments ++ title_text (area_title it)

unfoldable pub contour_path : Frame → Feature → List Seg → List ℕ
contour_path f it segments = line_text (codes "class=\"c") f segments ++ title_text (contour_title it)

-- the path of an area, and that of a contour
abbrev pub area_text : Frame → Parts → Feature → List ℕ
area_text f c it = area_path f it (area_segments c it)

abbrev pub contour_text : Frame → Parts → Feature → List ℕ
contour_text f c it = contour_path f it (area_segments c it)
