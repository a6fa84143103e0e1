-- Each text of a picture has its own marks alone, and so many paths, titles, numbers and rectangles.
use Rattle.std.proofs.Common.{◌≡◌, ℕ, ◌%◌, ◌≤◌, Option, Some, None, List, [], ◌∷◌, ◌++◌, length, refl, sym, ap, ◌∙◌, subst, append_assoc, arith}
use Rattle.std.proofs.lemmas.Int.{ints}
use Rattle.std.proofs.lemmas.List.Concat.{flat_map-append}
use Rattle.std.proofs.lemmas.List.Sorted.{length_permutation}
use Rattle.std.specs.List.{flat_map}
use Rattle.std.specs.Prelude.{codes, ℤ, pos, int_lt, unsigned_abs, ◌+◌, ◌*◌, ◌/◌, ◌^◌, eqb, ltb, decimal, slice_index_or}
use Rattle.chart_model.specs.Areas.{areas}
use Rattle.chart_model.specs.Lines.{area_segments}
use Rattle.chart_model.specs.Tally.{contours, soundings_of}
use Rattle.chart_model.specs.declared.records.Feature.{Feature}
use Rattle.chart_model.specs.declared.records.Parts.{Parts}
use Rattle.chart_model.specs.declared.records.Sounding.{Sounding}
use Rattle.chart_picture.proofs.Marks.{each_number, each_path, HasOwnTags, join, number, pick, plain_tags, recount, word}
use Rattle.chart_picture.proofs.Ordered.{order_moves, order_rises}
use Rattle.chart_picture.proofs.Painting.{IsEarthly, painted_is}
use Rattle.chart_picture.specs.Borders.{angle_text, bar_of, bar_text, border_text, box_text, east_text, edge_text, ground_text, head_text, latitude_text, latitudes_text, length_text, longitude_text, longitudes_text, minutes_of, north_text, position_text, scale_text, side_of, south_text, styles_text, view_height, view_text, view_width, west_text}
use Rattle.chart_picture.specs.Colours.{fill_of, objl_lndare, shoalest, unknown, water}
use Rattle.chart_picture.specs.Frames.{down_of, frame_of, right_of}
use Rattle.chart_picture.specs.Laws.{chart_soundings, MayCover, NumbersArePlain, NumbersStandAtPlaces, PicturesDrawEachOnce, PicturesHaveOwnMarks, TextsHaveOneEach}
use Rattle.chart_picture.specs.Layers.{deepest_first, layer_at, layer_of, painted_depth}
use Rattle.chart_picture.specs.Lines.{area_path, area_text, begin_text, contour_path, contour_text, is_same, line_text, place_text, stroke_text, strokes, title_text}
use Rattle.chart_picture.specs.Picture.{areas_text, contours_text, picture_by, picture_text, soundings_text}
use Rattle.chart_picture.specs.Soundings.{metres_text, node_text, number_style, sounding_text, tenths_text}
use Rattle.chart_picture.specs.Titles.{area_title, contour_title, depth_title, number_text}
use Rattle.chart_picture.specs.declared.frame.Frame.{Frame}
use Rattle.plane_geom.specs.declared.Point.{Point}
use Rattle.plane_geom.specs.declared.Seg.{Seg}
use Rattle.s57_codes.specs.Catalogue.{attl_drval1, attl_drval2, attl_valdco, objl_depare, objl_unsare}

-- a text without paths, titles, numbers and rectangles
abbrev HasNone : List ℕ → Type 0
HasNone text = HasOwnTags text 0 0 0 0

-- ---- paths

place : (f : Frame) (p : Point) → HasNone (place_text f p)
unfolding place_text
place f p = join (number (right_of f p.x)) (join (word (codes " ") 0 0 0 0 refl) (number (down_of f p.y)))

begins : (f : Frame) (last : Option Point) (p : Point) → HasNone (begin_text f last p)
unfolding begin_text
begins f None p = join (word (codes "M") 0 0 0 0 refl) (place f p)
begins f (Some last) p = pick (is_same last p) (word [] 0 0 0 0 refl) (join (word (codes "M") 0 0 0 0 refl) (place f p))

stroke : (f : Frame) (last : Option Point) (s : Seg) → HasNone (stroke_text f last s)
unfolding stroke_text
stroke f last s = join (begins f last s.a) (join (word (codes "L") 0 0 0 0 refl) (place f s.b))

path : (f : Frame) (last : Option Point) (ss : List Seg) → HasNone (strokes f last ss)
unfolding strokes
path f last [] = word [] 0 0 0 0 refl
path f last (s ∷ ss) = join (stroke f last s) (path f (Some s.b) ss)

line : (style : List ℕ) (f : Frame) (ss : List Seg) → HasNone style → HasOwnTags (line_text style f ss) 1 0 0 0
unfolding line_text
line style f ss h = join (word (codes "<path ") 1 0 0 0 refl) (join h (join (word (codes "\" d=\"") 0 0 0 0 refl) (path f None ss)))

title : (text : List ℕ) → HasNone text → HasOwnTags (title_text text) 0 1 0 0
unfolding title_text
title text h = join (word (codes "\"><title>") 0 1 0 0 refl) (join h (word (codes "</title></path>\n") 0 0 0 0 refl))

water_fill : (depth : Option ℤ) → HasNone (water depth)
water_fill None = word unknown 0 0 0 0 refl
water_fill (Some dm) =
    pick (int_lt dm (pos 0)) (word (codes "fill=\"#83b295") 0 0 0 0 refl)
    (pick (int_lt dm (pos 20)) (word (codes "fill=\"#73b6ef") 0 0 0 0 refl)
    (pick (int_lt dm (pos 50)) (word (codes "fill=\"#98c5f2") 0 0 0 0 refl)
    (pick (int_lt dm (pos 100)) (word (codes "fill=\"#c4e0f5") 0 0 0 0 refl)
    (pick (int_lt dm (pos 300)) (word (codes "fill=\"#e0f0fa") 0 0 0 0 refl)
    (word (codes "fill=\"#ffffff") 0 0 0 0 refl)))))

fill : (it : Feature) → HasNone (fill_of it)
unfolding fill_of
fill it = pick (eqb it.objl objl_depare) (water_fill (shoalest it)) (pick (eqb it.objl objl_lndare) (word (codes "fill=\"#c9b97a") 0 0 0 0 refl) (word unknown 0 0 0 0 refl))

value : NumbersArePlain → (code : ℕ) (it : Feature) → HasNone (number_text code it)
value plain code it = plain_tags (number_text code it) (plain code it)

depth_name : NumbersArePlain → (it : Feature) → HasNone (depth_title it)
unfolding depth_title
depth_name plain it =
    join (word (codes "depth area, ") 0 0 0 0 refl)
    (join (value plain attl_drval1 it)
    (join (word (codes " m to ") 0 0 0 0 refl)
    (join (value plain attl_drval2 it) (word (codes " m") 0 0 0 0 refl))))

area_name : NumbersArePlain → (it : Feature) → HasNone (area_title it)
unfolding area_title
area_name plain it =
    pick (eqb it.objl objl_depare) (depth_name plain it)
    (pick (eqb it.objl objl_unsare) (word (codes "unsurveyed area") 0 0 0 0 refl)
    (pick (eqb it.objl objl_lndare) (word (codes "land area") 0 0 0 0 refl)
    (join (word (codes "object ") 0 0 0 0 refl) (number it.objl))))

contour_name : NumbersArePlain → (it : Feature) → HasNone (contour_title it)
unfolding contour_title
contour_name plain it = join (word (codes "depth contour, ") 0 0 0 0 refl) (join (value plain attl_valdco it) (word (codes " m") 0 0 0 0 refl))

area : NumbersArePlain → (f : Frame) (it : Feature) (ss : List Seg) → HasOwnTags (area_path f it ss) 1 1 0 0
unfolding area_path
area plain f it ss = join (line (fill_of it) f ss (fill it)) (title (area_title it) (area_name plain it))

contour : NumbersArePlain → (f : Frame) (it : Feature) (ss : List Seg) → HasOwnTags (contour_path f it ss) 1 1 0 0
unfolding contour_path
contour plain f it ss = join (line (codes "class=\"c") f ss (word (codes "class=\"c") 0 0 0 0 refl)) (title (contour_title it) (contour_name plain it))

-- ---- soundings

style : (dm : ℤ) → HasOwnTags (number_style dm) 0 0 1 0
unfolding number_style
style dm = pick (int_lt dm (pos 0)) (word (codes "<text class=\"u\" x=\"") 0 0 1 0 refl) (word (codes "<text x=\"") 0 0 1 0 refl)

metres : (f : Frame) (s : Sounding) → HasNone (metres_text f s)
unfolding metres_text
metres f s =
    join (number (right_of f s.at.x))
    (join (word (codes "\" y=\"") 0 0 0 0 refl)
    (join (number (down_of f s.at.y + f.mm * 7 / 10))
    (join (word (codes "\">") 0 0 0 0 refl) (number (unsigned_abs s.depth / 10)))))

tenths : (mm n : ℕ) → HasNone (tenths_text mm n)
unfolding tenths_text
tenths mm n =
    pick (eqb n 0) (word [] 0 0 0 0 refl)
    (join (word (codes "<tspan class=\"d\" dy=\"") 0 0 0 0 refl)
    (join (number (mm * 6 / 10))
    (join (word (codes "\">") 0 0 0 0 refl)
    (join (number n) (word (codes "</tspan>") 0 0 0 0 refl)))))

sounding : (f : Frame) (s : Sounding) → HasOwnTags (sounding_text f s) 0 0 1 0
unfolding sounding_text
sounding f s = join (style s.depth) (join (metres f s) (join (tenths f.mm (unsigned_abs s.depth % 10)) (word (codes "</text>\n") 0 0 0 0 refl)))

-- ---- the head

view : (f : Frame) → HasNone (view_text f)
unfolding view_text
view f =
    join (word (codes "<svg xmlns=\"http://www.w3.org/2000/svg\" width=\"") 0 0 0 0 refl)
    (join (number (view_width f * 6 / f.mm))
    (join (word (codes "\" height=\"") 0 0 0 0 refl)
    (join (number (view_height f * 6 / f.mm)) (word (codes "\" ") 0 0 0 0 refl))))

box : (f : Frame) → HasNone (box_text f)
unfolding box_text
box f =
    join (word (codes "viewBox=\"-") 0 0 0 0 refl)
    (join (number (13 * f.mm))
    (join (word (codes " -") 0 0 0 0 refl)
    (join (number (3 * f.mm))
    (join (word (codes " ") 0 0 0 0 refl)
    (join (number (view_width f))
    (join (word (codes " ") 0 0 0 0 refl)
    (join (number (view_height f)) (word (codes "\">\n") 0 0 0 0 refl))))))))

styles : (f : Frame) → HasNone (styles_text f)
unfolding styles_text
styles f =
    join (word (codes "<style>svg{background:#ffffff}path{fill-rule:evenodd;stroke-linejoin:round}.c,.b{fill:none;stroke:#7d898c;stroke-width:") 0 0 0 0 refl)
    (join (number (f.mm / 8 + 1))
    (join (word (codes "}.b{stroke:#07070a}text{font:") 0 0 0 0 refl)
    (join (number (2 * f.mm))
    (join (word (codes "px sans-serif;text-anchor:middle;fill:#07070a}.d{font-size:") 0 0 0 0 refl)
    (join (number (14 * f.mm / 10)) (word (codes "px}.u{text-decoration:underline}.w{text-anchor:end}.e{text-anchor:start}</style>\n") 0 0 0 0 refl))))))

ground : (f : Frame) → HasOwnTags (ground_text f) 0 0 0 1
unfolding ground_text
ground f =
    join (word (codes "<rect width=\"") 0 0 0 1 refl)
    (join (number f.across)
    (join (word (codes "\" height=\"") 0 0 0 0 refl)
    (join (number f.up) (word (codes "\" fill=\"#a3b4b7\"/>\n") 0 0 0 0 refl))))

head : (f : Frame) → HasOwnTags (head_text f) 0 0 0 1
unfolding head_text
head f = join (view f) (join (box f) (join (styles f) (ground f)))

-- ---- the border

angle : (h : ℕ) → HasNone (angle_text h)
unfolding angle_text
angle h =
    join (number (h / 6000))
    (join (word (codes "&#176;") 0 0 0 0 refl)
    (join (number (h % 6000 / 1000))
    (join (number (h % 1000 / 100))
    (join (word (codes ".") 0 0 0 0 refl)
    (join (number (h % 100 / 10)) (number (h % 10)))))))

side : (below above : List ℕ) (z : ℤ) → HasNone below → HasNone above → HasNone (side_of below above z)
unfolding side_of
side below above z h i = pick (int_lt z (pos 0)) h i

position : (below above : List ℕ) (z : ℤ) → HasNone below → HasNone above → HasNone (position_text below above z)
unfolding position_text
position below above z h i = join (angle (minutes_of z)) (side below above z h i)

latitude : (z : ℤ) → HasNone (latitude_text z)
unfolding latitude_text
latitude z = position (codes "'S</text>\n") (codes "'N</text>\n") z (word (codes "'S</text>\n") 0 0 0 0 refl) (word (codes "'N</text>\n") 0 0 0 0 refl)

longitude : (z : ℤ) → HasNone (longitude_text z)
unfolding longitude_text
longitude z = position (codes "'W</text>\n") (codes "'E</text>\n") z (word (codes "'W</text>\n") 0 0 0 0 refl) (word (codes "'E</text>\n") 0 0 0 0 refl)

north : (f : Frame) → HasOwnTags (north_text f) 0 0 1 0
unfolding north_text
north f =
    join (word (codes "<text class=\"w\" x=\"-") 0 0 1 0 refl)
    (join (number f.mm)
    (join (word (codes "\" y=\"") 0 0 0 0 refl)
    (join (number (2 * f.mm)) (word (codes "\">") 0 0 0 0 refl))))

south : (f : Frame) → HasOwnTags (south_text f) 0 0 1 0
unfolding south_text
south f =
    join (word (codes "<text class=\"w\" x=\"-") 0 0 1 0 refl)
    (join (number f.mm)
    (join (word (codes "\" y=\"") 0 0 0 0 refl)
    (join (number f.up) (word (codes "\">") 0 0 0 0 refl))))

west : (f : Frame) → HasOwnTags (west_text f) 0 0 1 0
unfolding west_text
west f = join (word (codes "<text class=\"w\" x=\"0\" y=\"") 0 0 1 0 refl) (join (number (f.up + 3 * f.mm)) (word (codes "\">") 0 0 0 0 refl))

east : (f : Frame) → HasOwnTags (east_text f) 0 0 1 0
unfolding east_text
east f =
    join (word (codes "<text class=\"e\" x=\"") 0 0 1 0 refl)
    (join (number f.across)
    (join (word (codes "\" y=\"") 0 0 0 0 refl)
    (join (number (f.up + 3 * f.mm)) (word (codes "\">") 0 0 0 0 refl))))

edge : (f : Frame) → HasOwnTags (edge_text f) 0 0 0 1
unfolding edge_text
edge f =
    join (word (codes "<rect class=\"b\" width=\"") 0 0 0 1 refl)
    (join (number f.across)
    (join (word (codes "\" height=\"") 0 0 0 0 refl)
    (join (number f.up) (word (codes "\"/>\n") 0 0 0 0 refl))))

latitudes : (f : Frame) → HasOwnTags (latitudes_text f) 0 0 2 0
unfolding latitudes_text
latitudes f = join (north f) (join (latitude f.north) (join (south f) (latitude f.south)))

longitudes : (f : Frame) → HasOwnTags (longitudes_text f) 0 0 2 0
unfolding longitudes_text
longitudes f = join (west f) (join (longitude f.west) (join (east f) (longitude f.east)))

length_name : (m : ℕ) → HasNone (length_text m)
unfolding length_text
length_name m =
    pick (ltb m 1000)
    (join (number m) (word (codes " m</text>\n") 0 0 0 0 refl))
    (join (number (m / 1000)) (word (codes " km</text>\n") 0 0 0 0 refl))

bar : (f : Frame) (m : ℕ) → HasOwnTags (bar_text f m) 1 0 1 0
unfolding bar_text
bar f m =
    join (word (codes "<path class=\"b\" d=\"M0 ") 1 0 0 0 refl)
    (join (number (f.up + 4 * f.mm))
    (join (word (codes "H") 0 0 0 0 refl)
    (join (number (m * 10 ^ 10 / (11112 * f.longest)))
    (join (word (codes "\"/>\n<text class=\"e\" x=\"0\" y=\"") 0 0 1 0 refl)
    (join (number (f.up + 7 * f.mm)) (word (codes "\">") 0 0 0 0 refl))))))

-- how many scale bars there are
abbrev bars : Option ℕ → ℕ
bars None = 0
bars (Some m) = 1

few_bars : (o : Option ℕ) → bars o ≤ 1
few_bars None = omega arith
few_bars (Some m) = omega arith

scale : (f : Frame) (o : Option ℕ) → HasOwnTags (scale_text f o) (bars o) 0 (bars o) 0
unfolding scale_text
scale f None = word [] 0 0 0 0 refl
scale f (Some m) = join (bar f m) (length_name m)

border : (f : Frame) → HasOwnTags (border_text f) (bars (bar_of f.metres)) 0 (4 + bars (bar_of f.metres)) 1
unfolding border_text
border f =
    recount (bars (bar_of f.metres)) 0 (4 + bars (bar_of f.metres)) (omega arith) refl (omega arith)
    (join (edge f) (join (latitudes f) (join (longitudes f) (scale f (bar_of f.metres)))))

-- ---- the whole

all_areas : NumbersArePlain → (f : Frame) (c : Parts) → HasOwnTags (areas_text f c) (length (deepest_first (areas c))) (length (deepest_first (areas c))) 0 0
unfolding areas_text
all_areas plain f c = each_path (area_text f c) (deepest_first (areas c)) (λ it. area plain f it (area_segments c it))

all_contours : NumbersArePlain → (f : Frame) (c : Parts) → HasOwnTags (contours_text f c) (length (contours c)) (length (contours c)) 0 0
unfolding contours_text
all_contours plain f c = each_path (contour_text f c) (contours c) (λ it. contour plain f it (area_segments c it))

flat : {A B C : Type 0} (g : B → List C) (h : A → List B) (xs : List A) → flat_map (λ x. flat_map g (h x)) xs ≡ flat_map g (flat_map h xs)
flat g h [] = refl
flat g h (x ∷ xs) = ap (λ t. flat_map g (h x) ++ t) (flat g h xs) ∙ sym (flat_map-append g (h x) (flat_map h xs))

soundings_are : (f : Frame) (c : Parts) → soundings_text f c ≡ flat_map (sounding_text f) (chart_soundings c)
unfolding soundings_text node_text
soundings_are f c = flat (sounding_text f) soundings_of c.isolated

all_soundings : (f : Frame) (c : Parts) → HasOwnTags (soundings_text f c) 0 0 (length (chart_soundings c)) 0
all_soundings f c =
    subst (λ t. HasOwnTags t 0 0 (length (chart_soundings c)) 0) (sym (soundings_are f c)) (each_number (sounding_text f) (chart_soundings c) (sounding f))

whole : NumbersArePlain → (f : Frame) (c : Parts)
    → HasOwnTags (picture_by f c) (length (areas c) + length (contours c) + bars (bar_of f.metres)) (length (areas c) + length (contours c)) (4 + bars (bar_of f.metres) + length (chart_soundings c)) 2
unfolding picture_by
whole plain f c =
    let same : length (deepest_first (areas c)) ≡ length (areas c) = length_permutation _ _ (order_moves layer_of (areas c)) in
    recount (length (areas c) + length (contours c) + bars (bar_of f.metres)) (length (areas c) + length (contours c)) (4 + bars (bar_of f.metres) + length (chart_soundings c))
    (omega (arith, same)) (omega (arith, same)) (omega arith)
    (join (head f) (join (all_areas plain f c) (join (all_contours plain f c) (join (border f) (join (all_soundings f c) (word (codes "</svg>\n") 0 0 0 0 refl))))))

pub own_marks : NumbersArePlain → PicturesHaveOwnMarks
unfolding picture_text
own_marks plain c = (whole plain (frame_of c) c).own

pub texts_have_one_each : NumbersArePlain → TextsHaveOneEach
texts_have_one_each plain f c = record {
  area = λ it. (area plain f it (area_segments c it)).counts;
  contour = λ it. (contour plain f it (area_segments c it)).counts;
  sounding = λ s. (sounding f s).counts;
}

-- ---- the deepest first

may_cover : (x y : Option ℤ) → IsEarthly x → IsEarthly y → layer_at x ≤ layer_at y → MayCover x y
may_cover None None h i low = tt
may_cover (Some x) None h i low = tt
may_cover None (Some y) h i low = absurd (omega (arith, ints, i))
may_cover (Some x) (Some y) h i low = omega (arith, ints, h, i)

covers : (a b : Feature) → layer_of a ≤ layer_of b → MayCover (painted_depth a) (painted_depth b)
unfolding layer_of
covers a b low = may_cover (painted_depth a) (painted_depth b) (painted_is a) (painted_is b) low

pub pictures_draw_each_once : NumbersArePlain → PicturesDrawEachOnce
unfolding picture_text picture_by areas_text contours_text
pictures_draw_each_once plain c = record {
  painted = deepest_first (areas c);
  each_area = order_moves layer_of (areas c);
  deepest_first = λ i j d h k. covers (slice_index_or (deepest_first (areas c)) i d) (slice_index_or (deepest_first (areas c)) j d) (order_rises layer_of (areas c) i j d h k);
  head = head_text (frame_of c);
  border = border_text (frame_of c);
  bars = bars (bar_of (frame_of c).metres);
  whole = ap (λ t. head_text (frame_of c) ++ (flat_map (area_text (frame_of c) c) (deepest_first (areas c)) ++ (flat_map (contour_text (frame_of c) c) (contours c) ++ (border_text (frame_of c) ++ (t ++ codes "</svg>\n"))))) (soundings_are (frame_of c) c);
  in_head = (head (frame_of c)).counts;
  in_border = (border (frame_of c)).counts;
  one_bar = few_bars (bar_of (frame_of c).metres);
  in_whole = (whole plain (frame_of c) c).counts;
}

-- ---- numbers stand at their places

pub numbers_stand_at_places : NumbersStandAtPlaces
unfolding sounding_text metres_text
numbers_stand_at_places f s = (
  decimal (unsigned_abs s.depth / 10) ++ end,
  ap (λ t. number_style s.depth ++ t)
      (append_assoc (decimal x) (codes "\" y=\"" ++ (decimal y ++ (codes "\">" ++ shown))) end
      ∙ ap (λ t. decimal x ++ (codes "\" y=\"" ++ t)) (append_assoc (decimal y) (codes "\">" ++ shown) end)),
)
  where
    x : ℕ
    x = right_of f s.at.x

    y : ℕ
    y = down_of f s.at.y + f.mm * 7 / 10

    shown : List ℕ
    shown = decimal (unsigned_abs s.depth / 10)

    end : List ℕ
    end = tenths_text f.mm (unsigned_abs s.depth % 10) ++ codes "</text>\n"
