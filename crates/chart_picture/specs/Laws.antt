-- Laws of pictures in the subject's words.
use Rattle.std.specs.Prelude.{codes, decimal, cond, length, ℕ, ◌+◌, ◌*◌, ◌/◌, ◌≡◌, ◌==◌, Bool, ◌||◌, IsTrue, List, ◌∷◌, ◌++◌, flat_map, Option, Some, None, ℤ, ◌≤ℤ◌, ◌≤◌, [], ◌&&◌, not, true, false, IsPermutation}
use Rattle.std.specs.Char.{is_ascii_digit}
use Rattle.std.specs.List.{AllPairs, list_all, list_any}
use Rattle.chart_model.specs.Areas.{areas}
use Rattle.chart_model.specs.Tally.{contours, soundings_of}
use Rattle.chart_model.specs.declared.records.Feature.{Feature}
use Rattle.chart_model.specs.declared.records.Parts.{Parts}
use Rattle.chart_model.specs.declared.records.Sounding.{Sounding}
use Rattle.chart_picture.specs.Frames.{down_of, frame_of, IsFrame, right_of}
use Rattle.chart_picture.specs.Layers.{painted_depth}
use Rattle.chart_picture.specs.Lines.{area_text, contour_text, place_text, strokes}
use Rattle.chart_picture.specs.Picture.{picture_text}
use Rattle.chart_picture.specs.Soundings.{number_style, sounding_text}
use Rattle.chart_picture.specs.Titles.{number_text}
use Rattle.chart_picture.specs.declared.frame.Frame.{Frame}
use Rattle.plane_geom.specs.Segments.{joins}
use Rattle.plane_geom.specs.declared.Point.{Point}

-- a digit, `+`, `-`, `.`, `E`, `e`, or `?`: no byte that opens or ends anything in XML
abbrev pub is_plain : ℕ → Bool
is_plain c = is_ascii_digit c || (c == 43 || (c == 45 || (c == 46 || (c == 69 || (c == 101 || c == 63)))))

-- whatever bytes a feature's attributes have, what the picture says of them is plain
abbrev pub NumbersArePlain : Type 0
NumbersArePlain = (code : ℕ) (it : Feature) → IsTrue (list_all is_plain (number_text code it))

-- a corner of a path that isn't its first
abbrev pub corner_text : Frame → Point → List ℕ
corner_text f p = codes "L" ++ place_text f p

-- a path along points has one corner for each, in their order
abbrev pub PathsHaveCorners : Type 0
PathsHaveCorners = (f : Frame) (p q : Point) (ps : List Point) → strokes f None (joins (p ∷ q ∷ ps)) ≡ (codes "M" ++ place_text f p) ++ flat_map (corner_text f) (q ∷ ps)

-- north is up and east is right: of two places within the bounds the one that isn't south of the other stands no lower, and
-- the one that isn't west of the other no further left
pub record KeepsDirections (f : Frame) : Type 0 where
  pub north : (y z : ℤ) → y ≤ℤ z → z ≤ℤ f.north → down_of f z ≤ down_of f y
  pub east : (x z : ℤ) → f.west ≤ℤ x → x ≤ℤ z → right_of f x ≤ right_of f z

abbrev pub PlacesKeepDirections : Type 0
PlacesKeepDirections = (f : Frame) → IsFrame f → KeepsDirections f

-- the tags of a picture, and the sign for degrees
abbrev pub tags : List (List ℕ)
tags = codes "<svg " ∷ codes "</svg>" ∷ codes "<style>" ∷ codes "</style>" ∷ codes "<rect " ∷ codes "<path " ∷ codes "</path>" ∷ codes "<title>" ∷ codes "</title>" ∷ codes "<text " ∷ codes "</text>" ∷ codes "<tspan " ∷ codes "</tspan>" ∷ codes "&#176;" ∷ []

abbrev pub begins_with : List ℕ → List ℕ → Bool
begins_with [] text = true
begins_with (w ∷ ws) [] = false
begins_with (w ∷ ws) (c ∷ cs) = (w == c) && begins_with ws cs

-- `<` or `&`
abbrev pub is_mark : ℕ → Bool
is_mark c = (c == 60) || (c == 38)

-- each `<` begins one of the tags, and each `&` the sign for degrees
abbrev pub has_own_marks : List ℕ → Bool
has_own_marks [] = true
has_own_marks (c ∷ cs) = (not (is_mark c) || list_any (λ tag. begins_with tag (c ∷ cs)) tags) && has_own_marks cs

-- whatever a chart holds, its picture has no tags but these: no script and no link
abbrev pub PicturesHaveOwnMarks : Type 0
PicturesHaveOwnMarks = (c : Parts) → IsTrue (has_own_marks (picture_text c))

-- ---- each area, each contour and each sounding once

-- how often a text has a tag
abbrev pub times_in : List ℕ → List ℕ → ℕ
times_in tag [] = 0
times_in tag (c ∷ cs) = cond (begins_with tag (c ∷ cs)) 1 0 + times_in tag cs

-- how many paths, titles, numbers and rectangles a text has: a number is what SVG calls a text
pub record HasTags (text : List ℕ) (path title number rectangle : ℕ) : Type 0 where
  pub paths : times_in (codes "<path ") text ≡ path
  pub titles : times_in (codes "<title>") text ≡ title
  pub numbers : times_in (codes "<text ") text ≡ number
  pub rectangles : times_in (codes "<rect ") text ≡ rectangle

-- an area and a contour have one path with one title, and a sounding has one number
pub record HasOneEach (f : Frame) (c : Parts) : Type 0 where
  pub area : (it : Feature) → HasTags (area_text f c it) 1 1 0 0
  pub contour : (it : Feature) → HasTags (contour_text f c it) 1 1 0 0
  pub sounding : (s : Sounding) → HasTags (sounding_text f s) 0 0 1 0

abbrev pub TextsHaveOneEach : Type 0
TextsHaveOneEach = (f : Frame) (c : Parts) → HasOneEach f c

-- the number of a sounding begins with its place: across, and down to the line that it stands on, seven tenths of a millimetre
-- below the place, so that its middle is there
abbrev pub NumbersStandAtPlaces : Type 0
NumbersStandAtPlaces =
    (f : Frame) (s : Sounding) → (rest : List ℕ) × (sounding_text f s ≡ number_style s.depth ++ (decimal (right_of f s.at.x) ++ (codes "\" y=\"" ++ (decimal (down_of f s.at.y + f.mm * 7 / 10) ++ (codes "\">" ++ rest)))))

-- by the depths of two areas, the one may be painted over the other: it is no deeper, or no depth of it is known
abbrev pub MayCover : Option ℤ → Option ℤ → Type 0
MayCover below None = Unit {0}
MayCover None (Some above) = ⊥
MayCover (Some below) (Some above) = above ≤ℤ below

abbrev pub chart_soundings : Parts → List Sounding
chart_soundings c = flat_map soundings_of c.isolated

-- a picture is a head, a path for each area of group 1 in an order in which none is covered by a deeper one, a path for each
-- contour, a border, and a number for each sounding of the isolated nodes: there are no further paths, titles, numbers and
-- rectangles but the scale bar, the border's numbers, and a rectangle each of the head and the border
pub record DrawsEachOnce (c : Parts) : Type 0 where
  pub painted : List Feature
  pub each_area : IsPermutation (areas c) painted
  pub deepest_first : AllPairs (λ (below above : Feature). MayCover (painted_depth below) (painted_depth above)) painted
  pub head : List ℕ
  pub border : List ℕ
  pub bars : ℕ
  pub whole :
      picture_text c ≡
      head ++ (flat_map (area_text (frame_of c) c) painted ++ (flat_map (contour_text (frame_of c) c) (contours c) ++ (border ++ (flat_map (sounding_text (frame_of c)) (chart_soundings c) ++ codes "</svg>\n"))))
  pub in_head : HasTags head 0 0 0 1
  pub in_border : HasTags border bars 0 (4 + bars) 1
  pub one_bar : bars ≤ 1
  pub in_whole : HasTags (picture_text c) (length (areas c) + length (contours c) + bars) (length (areas c) + length (contours c)) (4 + bars + length (chart_soundings c)) 2

abbrev pub PicturesDrawEachOnce : Type 0
PicturesDrawEachOnce = (c : Parts) → DrawsEachOnce c
