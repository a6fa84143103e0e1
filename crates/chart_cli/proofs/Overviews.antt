-- The cell of an overview states no more water than the fine grid.
use Rattle.std.proofs.Common.{◌≡◌, ◌∙◌, ℕ, ◌*◌, ◌<◌, ◌≤◌, ℤ, true, false, Bool, cond, nat_lt, nat_le, List, length, Option, Some, None, Result, Ok, Err, IfSome, refl, sym, ap, subst, subst₂, arith, is_eq}
use Rattle.std.proofs.lemmas.Bool.{and_parts}
use Rattle.std.proofs.lemmas.Bool.Decides.{nat_tests}
use Rattle.std.specs.Cmp.{tied_itself}
use Rattle.std.specs.Cmp.Lexicographic.{nat_list_cmp_total}
use Rattle.std.specs.FinMap.{get, get-insert}
use Rattle.toml.specs.Data.{Members}
use Rattle.chart_compile.specs.Cell.{IsCellOf}
use Rattle.chart_dev.specs.Contents.{Contents, holding}
use Rattle.depth_grid.specs.Grid.{GridView, IsGrid}
use Rattle.grid_reader.proofs.Facts.{found_lines, good_depths}
use Rattle.grid_reader.proofs.Placed.{falls, rises}
use Rattle.grid_reader.specs.Header.{values}
use Rattle.grid_reader.specs.Reading.{grid_behind, header_of, reading as grid_reading}
use Rattle.grid_reader.specs.Shape.{Lines, places_found}
use Rattle.grid_reader.specs.Values.{node_depths, nodata_of}
use Rattle.grid_reader.specs.Words.{words}
use Rattle.grid_reader.specs.declared.fault.GridFault.{GridFault}
use Rattle.grid_reader.specs.declared.sense.Sense.{Sense}
use Rattle.overview_grid.specs.Coarse.{coarse_grid}
use Rattle.overview_grid.specs.Laws.{CoarseGridsAreOverviews, IsFactor}
use Rattle.overview_laws.specs.StaysShoal.{OverviewsStayShoal}
use Rattle.readings.proofs.Steps.{bind_ok, same_ok}
use Rattle.readings.specs.Readings.{◌>>=◌}
use Rattle.rule_sheet.proofs.TableLaws.{table-read}
use Rattle.rule_sheet.specs.Values.{IsSheet, SheetView}
use Rattle.rule_sheet.specs.declared.fault.SheetFault.{SheetFault}
use Rattle.chart_cli.specs.declared.status.Status.{Status}
use Rattle.chart_cli.specs.declared.status.Status.TheVariants.{Done}
use Rattle.chart_cli.specs.declared.words.OriginWords.{OriginWords}
use Rattle.chart_cli.specs.declared.words.OriginWords.TheVariants as origin
use Rattle.chart_cli.specs.Answers.{due_by, due_of, makes}
use Rattle.chart_cli.specs.Ends.{CellWhere, Ends, Holds, IsMade}
use Rattle.chart_cli.specs.Overviews.{HoldsOverview, OverviewStaysShoal}
use Rattle.chart_cli.specs.Lines.{factor_refusal, size_refusal}
use Rattle.chart_cli.specs.Reads.{InputsView, Read, Stop, file_in, grid_in, grid_or_refusal, has_overview, inputs_or_refusal, missing, overview_in, overview_or_refusal, refused, sense_of, sheet_from, sheet_in, sheet_or_refusal, sheet_reading, size_of, sources_in, table_in}
use Rattle.chart_cli.specs.Views.{origin_view}
use Rattle.chart_cli.specs.Words.{Origin, Sources, make, overview}

-- ---- what is read

-- a grid that a text gives keeps what every grid keeps
grid_is : (sense : Sense) (text : List ℕ) (g : GridView) → grid_reading sense text ≡ Ok g → IsGrid g
unfolding grid_reading
grid_is sense text g h =
    let ws = values (words 0 text) in
    let with_depths = λ (lines : Lines) (depths : List (Option ℤ)). let r : Result GridView GridFault = Ok (record { xs = lines.xs; ys = lines.ys; depths = depths }) in r in
    let a = bind_ok (header_of text) (λ found. grid_behind sense found ws) g h in
    let l = bind_ok (places_found a.0) (λ lines. node_depths sense (nodata_of a.0) (length lines.ys * length lines.xs) ws >>= with_depths lines) g a.2 in
    let d = bind_ok (node_depths sense (nodata_of a.0) (length l.0.ys * length l.0.xs) ws) (with_depths l.0) g l.2 in
    let are = found_lines a.0 l.0 l.1 in
    let good = good_depths sense (nodata_of a.0) (length l.0.ys * length l.0.xs) ws d.0 d.1 in
    let found : GridView = record { xs = l.0.xs; ys = l.0.ys; depths = d.0 } in
    subst IsGrid {x = found} {y = g} (same_ok found g d.2) (record { columns = are.xs.places; rows = are.ys; eastwards = rises l.0.xs are.xs.steps; southwards = falls l.0.ys are.steps; full = good.0; limited = good.1 })

-- and a sheet what every sheet keeps
sheet_is : (table : Option Members) (s : SheetView) → sheet_from table ≡ Ok s → IsSheet s
sheet_is None s h = absurd (cc (h))
sheet_is (Some table) s h = (table-read table s h).is_sheet

ok_grid : (r : Result GridView GridFault) (g : GridView) → grid_or_refusal r ≡ Ok g → r ≡ Ok g
ok_grid (Ok x) g h = ap Ok (same_ok x g h)
ok_grid (Err e) g h = absurd (cc (h))

ok_sheet : (r : Result SheetView SheetFault) (s : SheetView) → sheet_or_refusal r ≡ Ok s → r ≡ Ok s
ok_sheet (Ok x) s h = ap Ok (same_ok x s h)
ok_sheet (Err e) s h = absurd (cc (h))

grid_in_is : (sense : Sense) (file : Option (List ℕ)) (g : GridView) → grid_in sense file ≡ Ok g → IsGrid g
grid_in_is sense file g h =
    let a = bind_ok (file_in 67108864 _ file) (λ bytes. grid_or_refusal (grid_reading sense bytes)) g h in
    grid_is sense a.0 g (ok_grid (grid_reading sense a.0) g a.2)

sheet_in_is : (file : Option (List ℕ)) (s : SheetView) → sheet_in file ≡ Ok s → IsSheet s
sheet_in_is file s h =
    let a = bind_ok (file_in 65536 _ file) (λ bytes. sheet_or_refusal (sheet_reading bytes)) s h in
    sheet_is (table_in a.0) s (ok_sheet (sheet_reading a.0) s a.2)

sources_are : (sheet_file grid_file : Option (List ℕ)) (i : InputsView) → sources_in sheet_file grid_file ≡ Ok i → IsGrid i.grid × IsSheet i.sheet
sources_are sheet_file grid_file i h =
    let with_grid = λ (sheet : SheetView) (grid : GridView). let r : Read InputsView = Ok (record { grid = grid; sheet = sheet }) in r in
    let a = bind_ok (sheet_in sheet_file) (λ sheet. grid_in (sense_of sheet.positive) grid_file >>= with_grid sheet) i h in
    let b = bind_ok (grid_in (sense_of a.0.positive) grid_file) (with_grid a.0) i a.2 in
    subst (λ (i : InputsView). IsGrid i.grid × IsSheet i.sheet) (same_ok _ i b.2) (grid_in_is (sense_of a.0.positive) grid_file b.0 b.1, sheet_in_is sheet_file a.0 a.1)

-- ---- an overview

less_of : (m n : ℕ) → nat_lt m n ≡ true → m < n
less_of m n h = grind (arith, nat_tests)

-- what isn't refused passed the test
passed : {X : Type 0} (test : Bool) (x y : X) (stop : Stop) → ◌≡◌ {A = Read X} (cond test (Ok x) (Err stop)) (Ok y) → (test ≡ true) × (x ≡ y)
passed true x y stop h = (refl, same_ok x y h)
passed false x y stop h = absurd (cc (h))

-- the overview of a grid, where the factor isn't refused
overview_is : (factor : ℕ) (g c : GridView) → 1 ≤ factor → overview_or_refusal factor g ≡ Ok c → IsFactor g factor × (coarse_grid g factor ≡ c)
overview_is factor g c some h =
    let p = passed (has_overview g factor) (coarse_grid g factor) c (refused (factor_refusal factor)) h in
    let both = and_parts (nat_lt factor (length g.ys)) (nat_lt factor (length g.xs)) p.0 in
    (record { some = some; rows = less_of factor (length g.ys) both.0; columns = less_of factor (length g.xs) both.1 }, p.1)

-- the inputs stay as they are where their size isn't refused
same_inputs : (i j : InputsView) → inputs_or_refusal i ≡ Ok j → i ≡ j
same_inputs i j h = (passed (nat_le (size_of i) 3000000) i j (refused (size_refusal (size_of i))) h).1

-- a name under which bytes were stored holds them
held_there : (before after : Contents) (name bytes : List ℕ) → Holds name bytes (Some before) (Some after) → get after name ≡ Some bytes
held_there before after name bytes h =
    let e : after ≡ holding name bytes before = cc (h) in
    ap (λ files. get files name) e ∙ (get-insert nat_list_cmp_total before name bytes name ∙ ap (λ t. cond t (Some bytes) (get before name)) (ap is_eq (tied_itself nat_list_cmp_total name)))

-- the factor that words have is at least 1
abbrev pub HasFactor : Origin → Type 0
HasFactor (overview names factor) = 1 ≤ factor
HasFactor _ = Unit {0}

pub has_factor : (o : OriginWords) → HasFactor (origin_view o)
has_factor (origin.Sources w) = tt
has_factor (origin.Overview w factor) = let l = factor.several in omega (arith, l)
has_factor (origin.Sample n) = tt

module _ (computed : CoarseGridsAreOverviews) (stay : OverviewsStayShoal) where
  module _ (names : Sources) (factor : ℕ) (some : 1 ≤ factor) (name : List ℕ) (before after : Contents) where
    abbrev inputs : Read InputsView
    inputs = overview_in factor (get before names.sheet) (get before names.grid)

    made : (i : InputsView) → inputs ≡ Ok i → (cell : CellWhere (IsMade i.grid i.sheet)) → Holds name cell.bytes (Some before) (Some after) → HoldsOverview names factor name before after
    made i read cell holds =
        let with_grid = λ (s : InputsView) (coarse : GridView). inputs_or_refusal (record { grid = coarse; sheet = s.sheet }) in
        let a = bind_ok (sources_in (get before names.sheet) (get before names.grid)) (λ s. overview_or_refusal factor s.grid >>= with_grid s) i read in
        let b = bind_ok (overview_or_refusal factor a.0.grid) (with_grid a.0) i a.2 in
        let o = overview_is factor a.0.grid b.0 some b.1 in
        let same : record { grid = b.0; sheet = a.0.sheet } ≡ i = same_inputs (record { grid = b.0; sheet = a.0.sheet }) i b.2 in
        let are = sources_are (get before names.sheet) (get before names.grid) a.0 a.1 in
        let grid : i.grid ≡ coarse_grid a.0.grid factor = sym (o.1 ∙ ap (λ (i : InputsView). i.grid) same) in
        let sheet : i.sheet ≡ a.0.sheet = sym (ap (λ (i : InputsView). i.sheet) same) in
        let is_cell : IsCellOf (coarse_grid a.0.grid factor) a.0.sheet cell.bytes cell.is.0 = subst₂ (λ g s. IsCellOf g s cell.bytes cell.is.0) grid sheet cell.is.1 in
        record {
          fine = a.0.grid;
          sheet = a.0.sheet;
          sources = a.1;
          bytes = cell.bytes;
          held = held_there before after name cell.bytes holds;
          tally = cell.is.0;
          is_cell = is_cell;
          stays_shoal = stay a.0.grid (coarse_grid a.0.grid factor) factor a.0.sheet is_cell.chart are.0 are.1 o.0 (computed a.0.grid factor o.0) is_cell.is;
        }

    done : (old new : Option (List ℕ)) (r : Read InputsView) → inputs ≡ r → Ends Done (due_by (λ i. makes name i.grid i.sheet) r) (Some before) (Some after) old new → HoldsOverview names factor name before after
    done old new (Ok i) read h = made i read h.0 h.1
    done old new (Err (refused line)) read h = absurd (let e = h.1.0 in cc (e))
    done old new (Err missing) read h = absurd h.1

  pub overview_stays : (o : Origin) → HasFactor o → (name : List ℕ) (status : Status) (before after : Option Contents) (old new : Option (List ℕ)) → IfSome before (λ files. Ends status (due_of (make o name) files) before after old new)
      → OverviewStaysShoal (Some (make o name)) status before after
  overview_stays (overview names factor) some name Done (Some before) (Some after) old new h = done names factor some name before after old new (inputs names factor some name before after) refl h
  overview_stays _ _ _ _ _ _ _ _ _ = tt
