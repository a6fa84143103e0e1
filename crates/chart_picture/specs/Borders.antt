-- What stands around the chart: the head of the picture, the ground, the frame with degrees and minutes, the scale bar.
use Rattle.std.specs.Prelude.{codes, ℕ, ◌+◌, ◌*◌, ◌/◌, ◌%◌, ◌^◌, cond, nat_le, ltb, ℤ, pos, unsigned_abs, int_lt, List, [], ◌∷◌, ◌++◌, find, Option, Some, None, decimal}
use Rattle.chart_picture.specs.declared.frame.Frame.{Frame}

-- ---- the head

-- 13 mm at the left and the right, 3 mm above and 8 mm below the chart are for the frame's numbers and the scale bar
unfoldable pub view_width : Frame → ℕ
view_width f = f.across + 26 * f.mm

unfoldable pub view_height : Frame → ℕ
view_height f = f.up + 11 * f.mm

-- six points of a screen for each millimetre on paper
unfoldable pub view_text : Frame → List ℕ
view_text f =
    codes "<svg xmlns=\"http://www.w3.org/2000/svg\" width=\"" ++ (decimal (view_width f * 6 / f.mm)
    ++ (codes "\" height=\"" ++ (decimal (view_height f * 6 / f.mm) ++ codes "\" ")))

unfoldable pub box_text : Frame → List ℕ
box_text f =
    codes "viewBox=\"-" ++ (decimal (13 * f.mm) ++ (codes " -" ++ (decimal (3 * f.mm)
    ++ (codes " " ++ (decimal (view_width f) ++ (codes " " ++ (decimal (view_height f) ++ codes "\">\n")))))))

-- lines of an eighth of a millimetre, numbers of two millimetres
unfoldable pub styles_text : Frame → List ℕ
styles_text f =
    codes "<style>svg{background:#ffffff}path{fill-rule:evenodd;stroke-linejoin:round}.c,.b{fill:none;stroke:#7d898c;stroke-width:" ++ (decimal (f.mm / 8 + 1)
    ++ (codes "}.b{stroke:#07070a}text{font:" ++ (decimal (2 * f.mm) ++ (codes "px sans-serif;text-anchor:middle;fill:#07070a}.d{font-size:" ++ (decimal (14 * f.mm / 10)
    ++ codes "px}.u{text-decoration:underline}.w{text-anchor:end}.e{text-anchor:start}</style>\n")))))

-- what isn't an area of group 1 is unknown ground
unfoldable pub ground_text : Frame → List ℕ
ground_text f = codes "<rect width=\"" ++ (decimal f.across ++ (codes "\" height=\"" ++ (decimal f.up ++ codes "\" fill=\"#a3b4b7\"/>\n")))

unfoldable pub head_text : Frame → List ℕ
head_text f = view_text f ++ (box_text f ++ (styles_text f ++ ground_text f))

-- ---- the frame

-- hundredths of a minute, rounded towards zero
unfoldable pub minutes_of : ℤ → ℕ
minutes_of z = unsigned_abs z * 3 / 5000

-- degrees and minutes, as 53°07.25'
unfoldable pub angle_text : ℕ → List ℕ
angle_text h = decimal (h / 6000) ++ (codes "&#176;" ++ (decimal (h % 6000 / 1000) ++ (decimal (h % 1000 / 100) ++ (codes "." ++ (decimal (h % 100 / 10) ++ decimal (h % 10))))))

-- with the side of the equator or of the meridian, and the end of a text
unfoldable pub side_of : List ℕ → List ℕ → ℤ → List ℕ
side_of below above z = cond (int_lt z (pos 0)) below above

unfoldable pub position_text : List ℕ → List ℕ → ℤ → List ℕ
position_text below above z = angle_text (minutes_of z) ++ side_of below above z

unfoldable pub latitude_text : ℤ → List ℕ
latitude_text z = position_text (codes "'S</text>\n") (codes "'N</text>\n") z

unfoldable pub longitude_text : ℤ → List ℕ
longitude_text z = position_text (codes "'W</text>\n") (codes "'E</text>\n") z

unfoldable pub north_text : Frame → List ℕ
north_text f = codes "<text class=\"w\" x=\"-" ++ (decimal f.mm ++ (codes "\" y=\"" ++ (decimal (2 * f.mm) ++ codes "\">")))

unfoldable pub south_text : Frame → List ℕ
south_text f = codes "<text class=\"w\" x=\"-" ++ (decimal f.mm ++ (codes "\" y=\"" ++ (decimal f.up ++ codes "\">")))

unfoldable pub west_text : Frame → List ℕ
west_text f = codes "<text class=\"w\" x=\"0\" y=\"" ++ (decimal (f.up + 3 * f.mm) ++ codes "\">")

unfoldable pub east_text : Frame → List ℕ
east_text f = codes "<text class=\"e\" x=\"" ++ (decimal f.across ++ (codes "\" y=\"" ++ (decimal (f.up + 3 * f.mm) ++ codes "\">")))

-- a line round the chart
unfoldable pub edge_text : Frame → List ℕ
edge_text f = codes "<rect class=\"b\" width=\"" ++ (decimal f.across ++ (codes "\" height=\"" ++ (decimal f.up ++ codes "\"/>\n")))

-- the latitudes of the north and of the south stand left of the chart, the longitudes of the west and of the east below it
unfoldable pub latitudes_text : Frame → List ℕ
latitudes_text f = north_text f ++ (latitude_text f.north ++ (south_text f ++ latitude_text f.south))

unfoldable pub longitudes_text : Frame → List ℕ
longitudes_text f = west_text f ++ (longitude_text f.west ++ (east_text f ++ longitude_text f.east))

-- ---- the scale bar

-- lengths in metres
abbrev pub lengths : List ℕ
lengths = 1000000 ∷ 500000 ∷ 200000 ∷ 100000 ∷ 50000 ∷ 20000 ∷ 10000 ∷ 5000 ∷ 2000 ∷ 1000 ∷ 500 ∷ 200 ∷ 100 ∷ 50 ∷ 20 ∷ 10 ∷ 5 ∷ 2 ∷ 1 ∷ []

-- the longest that is at most half as long as the chart is wide
unfoldable pub bar_of : ℕ → Option ℕ
bar_of metres = find (λ m. nat_le m (metres / 2)) lengths

-- whole kilometres as such
unfoldable pub length_text : ℕ → List ℕ
length_text m = cond (ltb m 1000) (decimal m ++ codes " m</text>\n") (decimal (m / 1000) ++ codes " km</text>\n")

unfoldable pub bar_text : Frame → ℕ → List ℕ
bar_text f m =
    codes "<path class=\"b\" d=\"M0 " ++ (decimal (f.up + 4 * f.mm) ++ (codes "H" ++ (decimal (m * 10 ^ 10 / (11112 * f.longest))
    ++ (codes "\"/>\n<text class=\"e\" x=\"0\" y=\"" ++ (decimal (f.up + 7 * f.mm) ++ codes "\">")))))

-- no bar where the chart is narrower than two metres
unfoldable pub scale_text : Frame → Option ℕ → List ℕ
scale_text f None = []
scale_text f (Some m) = bar_text f m ++ length_text m

unfoldable pub border_text : Frame → List ℕ
border_text f = edge_text f ++ (latitudes_text f ++ (longitudes_text f ++ scale_text f (bar_of f.metres)))
