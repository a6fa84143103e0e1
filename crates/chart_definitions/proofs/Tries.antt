-- The definitions tried on the smallest chart: two rows of two nodes, all at 10 metres, and no level.
use Rattle.std.proofs.Common.{codes, ◌≡◌, ℕ, pos, ◌++◌, Bool, true, false, Some, None, List, [], ◌∷◌, map, replicate, IsPermutation, refl, arith, ℤ, zero, suc, inl, inr, negsuc, ◌*◌, ◌-◌}
use Rattle.std.proofs.lemmas.List.Sorted.{IsPermutation-append_comm}
use Rattle.std.proofs.lemmas.Int.{ints}
use Rattle.std.specs.Fmt.{digits}
use Rattle.std.specs.Prelude.{slice_index_or}
use Rattle.mesh_definitions.specs.Edges.{lines_at}
use Rattle.mesh_definitions.specs.Faces.{boundary, drawn}
use Rattle.mesh_definitions.specs.Pieces.{Mesh, walked, whole_mesh}
use Rattle.mesh_definitions.specs.Rings.{area_sum}
use Rattle.mesh_definitions.specs.declared.Class.TheVariants.{Band}
use Rattle.mesh_definitions.specs.declared.Step.{Step}
use Rattle.mesh_definitions.specs.declared.Sub.TheVariants.{Chord, Part}
use Rattle.mesh_definitions.specs.declared.Way.TheVariants.{Across, Down}
use Rattle.mesh_definitions.specs.declared.Way.{Way}
use Rattle.chart_definitions.specs.Areas.{IsAreaOf}
use Rattle.chart_definitions.specs.ChartOf.{mesh_in}
use Rattle.chart_definitions.specs.Contours.{PartsBands}
use Rattle.depth_rounding.specs.Bands.{deeper_end, level_at, shoaler_end}
use Rattle.chart_definitions.specs.Coverage.{pointers_of}
use Rattle.chart_definitions.specs.Meaning.{of_code}
use Rattle.chart_definitions.specs.Pointers.{run_of, usage_of}
use Rattle.chart_definitions.specs.Pointers.Run.{Border, Seam, Within}
use Rattle.chart_definitions.specs.Rest.{IsHeader}
use Rattle.chart_definitions.specs.SoundEdges.{times}
use Rattle.chart_definitions.specs.Soundings.{sounding_at, sounding_pointers}
use Rattle.chart_model.specs.Areas.{areas}
use Rattle.chart_model.specs.Lines.{area_segments, edge_segments}
use Rattle.chart_model.specs.Tally.{soundings_of, tally_of}
use Rattle.chart_model.specs.declared.records.Edge.{Edge}
use Rattle.chart_model.specs.declared.records.Feature.{Feature}
use Rattle.chart_model.specs.declared.records.Header.{Header}
use Rattle.chart_model.specs.declared.records.Parts.{Parts}
use Rattle.chart_model.specs.declared.records.Pointer.{Pointer}
use Rattle.chart_model.specs.declared.records.Shape.TheVariants.{Soundings}
use Rattle.exact_num.specs.Printed.{decimetres}
use Rattle.plane_geom.specs.declared.Point.{Point}
use Rattle.rule_sheet.specs.Values.{SheetView}
use Rattle.rule_sheet.specs.declared.sheet.Sense2.TheVariants as sense
use Rattle.s57_codes.specs.Catalogue.{objl_depcnt, objl_m_covr, objl_m_qual, objl_soundg}
use Rattle.shoal_buffer.specs.Charted.{ChartedView, IsExtent}

-- 0.0032 degrees apart
abbrev pub view : ChartedView
view = record { grid = record { xs = pos 0 ∷ pos 32000 ∷ []; ys = pos 32000 ∷ pos 0 ∷ []; depths = replicate 4 (Some (pos 10000)) }; opened = replicate 4 (Some (pos 10000)); charted = replicate 4 (Some (pos 100)) }

abbrev pub sheet : SheetView
sheet = record {
  positive = sense.Down;
  levels = [];
  step_from = pos 210 ∷ pos 310 ∷ [];
  steps = pos 1 ∷ pos 5 ∷ pos 10 ∷ [];
  aspect = 1000;
  disc_radius = 0;
  sounding_radius = 2000 ∷ [];
  name = codes "X";
  edition = 1;
  issued = codes "20260101";
  agency = 7;
  scale = 12000;
  usage = 5;
  vertical_datum = 3;
  sounding_datum = 4;
  catzoc = None;
}

abbrev pub mesh : Mesh
mesh = mesh_in view sheet (λ i j. 0)

abbrev pub at : ℕ → ℕ → Point
at x y = record { x = pos x; y = pos y }

-- a closed edge from its least point, clockwise round the coverage
abbrev pub edge : Edge
edge = record { rcid = 1; rver = 1; first = 1; last = 1; inner = at 0 32000 ∷ at 32000 32000 ∷ at 32000 0 ∷ [] }

abbrev pub border : Pointer
border = record { rcnm = 130; rcid = 1; ornt = 1; usag = 3; mask = 255 }

abbrev pub covers : Feature
covers = record { rcid = 1; rver = 1; prim = 3; grup = 2; objl = 302; agen = 7; fidn = 1; fids = 1; attributes = record { code = 18; text = codes "1" } ∷ []; pointers = border ∷ [] }

abbrev pub deep : Feature
deep = record { rcid = 2; rver = 1; prim = 3; grup = 1; objl = 42; agen = 7; fidn = 2; fids = 1; attributes = record { code = 87; text = codes "10" } ∷ record { code = 88; text = codes "10.1" } ∷ []; pointers = border ∷ [] }

abbrev pub sounding : Feature
sounding = record { rcid = 3; rver = 1; prim = 1; grup = 2; objl = 129; agen = 7; fidn = 3; fids = 1; attributes = []; pointers = record { rcnm = 110; rcid = 1; ornt = 255; usag = 255; mask = 255 } ∷ [] }

abbrev pub header : Header
header = record { expp = 1; intu = 5; dsnm = codes "X.000"; edtn = codes "1"; updn = codes "0"; uadt = codes "20260101"; isdt = codes "20260101"; sted = codes "03.1"; prsp = 1; psdn = []; pred = codes "2.0"; prof = 1; agen = 7; comt = []; aall = 0; nall = 0; hdat = 2; vdat = 3; sdat = 4; cscl = 12000; huni = 1; puni = 1; note = [] }

abbrev pub chart : Parts
chart = record {
  header = header;
  isolated = record { rcid = 1; rver = 1; shape = Soundings (record { at = at 0 32000; depth = pos 100 } ∷ []) } ∷ [];
  connected = record { rcid = 1; rver = 1; at = at 0 0 } ∷ [];
  edges = edge ∷ [];
  features = covers ∷ deep ∷ sounding ∷ [];
}

abbrev pub step : Way → ℕ → ℕ → Bool → Step
step w i j b = record { sub = Part (record { way = w; row = i; col = j }) 0; forward = b }

abbrev pub trace : List Step
trace = step Down 0 0 false ∷ step Across 0 0 true ∷ step Down 0 1 true ∷ step Across 1 0 false ∷ []

follows : edge_segments chart edge ≡ map (walked mesh) trace
follows = refl

-- all drawn sub-segments, in another order
all_drawn : IsPermutation (drawn mesh) (map (λ s. s.sub) trace)
all_drawn = record { moves = (2, 3) ∷ (1, 2) ∷ (0, 2) ∷ []; below = (omega arith, omega arith, (omega arith, omega arith, (omega arith, omega arith, tt))); is = refl }

no_junction : (lines_at mesh (at 0 32000) ≡ 2) × (lines_at mesh (at 0 0) ≡ 2)
no_junction = (refl, refl)

one_area : areas chart ≡ deep ∷ []
one_area = refl

pub outline : IsPermutation (map (walked mesh) (boundary mesh (λ p. true))) (area_segments chart deep)
outline = IsPermutation-append_comm (map (walked mesh) (step Across 0 0 true ∷ step Down 0 1 true ∷ step Across 1 0 false ∷ [])) (map (walked mesh) (step Down 0 0 false ∷ []))

texts : (decimetres (pos 100) ≡ codes "10") × (decimetres (pos 101) ≡ codes "10.1")
unfolding decimetres digits
texts = (refl, refl)

-- of four charted depths of 10 metres each is the least and the greatest
alike : (k : ℕ) (x : ℤ) → slice_index_or (replicate 4 (Some (pos 100))) k None ≡ Some x → pos 100 ≡ x
alike zero x e = cc
alike (suc zero) x e = cc
alike (suc (suc zero)) x e = cc
alike (suc (suc (suc zero))) x e = cc
alike (suc (suc (suc (suc k)))) x e = absurd (cc)

extent : IsExtent (replicate 4 (Some (pos 100))) (Some (pos 100, pos 100))
extent = (record { stands = (0, refl); least = λ x h. let e = alike h.0 x h.1 in omega (arith, ints, e) }, record { stands = (0, refl); greatest = λ x h. let e = alike h.0 x h.1 in omega (arith, ints, e) })

-- the only band reaches a decimetre below the greatest depth
range : IsAreaOf view [] (Band 0) deep
unfolding decimetres digits
range = (pos 100, pos 101, record { least = pos 100; greatest = pos 100; extent = extent; from = refl; to = refl }, record { code = refl; range = refl })

clockwise : (area_sum (area_segments chart deep) ≡ pos 2048000000) × (usage_of chart deep.pointers ≡ 1)
clockwise = (refl, refl)

all_border : map (run_of mesh) trace ≡ Border ∷ Border ∷ Border ∷ Border ∷ []
all_border = refl

pub head : IsHeader sheet chart.header
unfolding digits
head = record { purpose = (refl, refl); name = refl; edition = (refl, refl); dates = (refl, refl); standard = (refl, refl, refl, refl, refl); agency = (refl, refl); lexical = (refl, refl); datums = (refl, refl, refl); scale = (refl, refl, refl, refl) }

pub order : chart.features ≡ of_code objl_m_covr chart ++ (of_code objl_m_qual chart ++ (areas chart ++ (of_code objl_depcnt chart ++ of_code objl_soundg chart)))
order = refl

-- the first of four nodes that are alike, in the north-west
soundings : (map soundings_of chart.isolated ≡ (sounding_at view sheet (record { row = 0; col = 0 }) ∷ []) ∷ []) × (pointers_of objl_soundg chart ≡ map sounding_pointers chart.isolated)
soundings = (refl, refl)

named : (times true edge deep ≡ 1) × (times false edge deep ≡ 0)
named = (refl, refl)

tally : tally_of chart ≡ record { areas = 1; contours = 0; soundings = 1 }
tally = refl

-- 4 metres in the west and 6 in the east, with a level at 5 metres
abbrev pub sloping : ChartedView
sloping = record view { charted = Some (pos 40) ∷ Some (pos 60) ∷ Some (pos 40) ∷ Some (pos 60) ∷ [] }

abbrev pub levelled : SheetView
levelled = record sheet { levels = pos 50 ∷ [] }

-- a step along a chord, which has the deep side on its right
abbrev chord : Bool → Step
chord b = record { sub = Chord (record { row = 0; col = 0; upper = true }) 1; forward = b }

parting : PartsBands (mesh_in sloping levelled (λ i j. 0)) 0 (chord true) × PartsBands (mesh_in sloping levelled (λ i j. 0)) 0 (chord false)
parting = ((0, inr (record { on_right = refl; on_left = refl })), (0, inl (record { on_right = refl; on_left = refl })))

-- within a block, and between two blocks
runs : (run_of (mesh_in sloping levelled (λ i j. 0)) (chord true) ≡ Within) × (run_of (whole_mesh (record { rows = 2; cols = 3; x = λ j. pos (64 * j); y = λ i. pos (64 * (1 - i)); depth = λ n. Some (pos 10); levels = [] }) (λ i j. j)) (step Down 0 1 true) ≡ Seam)
runs = (refl, refl)

ranges : (map decimetres (shoaler_end (pos 50 ∷ []) (pos 40) 0 ∷ deeper_end (pos 50 ∷ []) (pos 40) (pos 60) 0 ∷ shoaler_end (pos 50 ∷ []) (pos 40) 1 ∷ deeper_end (pos 50 ∷ []) (pos 40) (pos 60) 1 ∷ []) ≡ codes "4" ∷ codes "5" ∷ codes "5" ∷ codes "6" ∷ []) × (decimetres (level_at (pos 50 ∷ []) 0) ≡ codes "5") × (decimetres (negsuc 3) ≡ codes "-0.4")
unfolding decimetres digits
ranges = (refl, refl, refl)
