-- The picture of a chart as an SVG: its areas of group 1, the deepest first, its contours, its frame, and its soundings as
-- numbers.
use Rattle.std.specs.Prelude.{codes, ℕ, List, ◌++◌, flat_map}
use Rattle.chart_model.specs.Areas.{areas}
use Rattle.chart_model.specs.Tally.{contours}
use Rattle.chart_model.specs.declared.records.Parts.{Parts}
use Rattle.chart_picture.specs.Borders.{head_text, border_text}
use Rattle.chart_picture.specs.Frames.{frame_of}
use Rattle.chart_picture.specs.Layers.{deepest_first}
use Rattle.chart_picture.specs.Lines.{area_text, contour_text}
use Rattle.chart_picture.specs.Soundings.{node_text}
use Rattle.chart_picture.specs.declared.frame.Frame.{Frame}

unfoldable pub areas_text : Frame → Parts → List ℕ
areas_text f c = flat_map (area_text f c) (deepest_first (areas c))

unfoldable pub contours_text : Frame → Parts → List ℕ
contours_text f c = flat_map (contour_text f c) (contours c)

unfoldable pub soundings_text : Frame → Parts → List ℕ
soundings_text f c = flat_map (node_text f) c.isolated

-- a chart in a frame
unfoldable pub picture_by : Frame → Parts → List ℕ
picture_by f c = head_text f ++ (areas_text f c ++ (contours_text f c ++ (border_text f ++ (soundings_text f c ++ codes "</svg>\n"))))

unfoldable pub picture_text : Parts → List ℕ
picture_text c = picture_by (frame_of c) c
