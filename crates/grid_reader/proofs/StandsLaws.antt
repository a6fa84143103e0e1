-- A text stands for a grid exactly where its reading gives it.
use Rattle.std.proofs.Common.{◌≡◌, ◌↔◌, ℕ, ◌+◌, ◌-◌, ◌*◌, ◌<◌, ◌≤◌, ℤ, List, [], ◌∷◌, length, get_or, reverse, is_some, cond, unsigned_abs, Option, Some, None, Result, Ok, Err, refl, sym, ap, ap₂, subst, ◌∙◌, arith, length-drop, mul-le-mul}
use Rattle.std.specs.Result.{IfOk, IfErr}
use Rattle.std.proofs.lemmas.List.{reverse-reverse, length-reverse}
use Rattle.depth_grid.specs.Grid.{GridView, place}
use Rattle.grid_reader.specs.declared.fault.GridFault.{GridFault}
use Rattle.grid_reader.specs.declared.fault.GridFault.TheVariants as fault
use Rattle.grid_reader.specs.declared.found.Found.{Found}
use Rattle.grid_reader.specs.declared.found.Needs.{Needs}
use Rattle.grid_reader.specs.declared.sense.Sense.{Sense}
use Rattle.grid_reader.specs.Words.{Word, words}
use Rattle.grid_reader.specs.Marks.{Mark, mark_of}
use Rattle.readings.specs.Readings.{◌>>=◌, Unless}
use Rattle.grid_reader.specs.Header.{pairs, values, found_from, header_ends}
use Rattle.grid_reader.specs.Shape.{Lines, doubled, position, needs_of, places_of, places_found}
use Rattle.grid_reader.specs.Values.{nodata_of, node_depths}
use Rattle.grid_reader.specs.Reading.{nothing, header_of, grid_behind, reading, is_memory, Gives}
use Rattle.grid_reader.specs.Stands.{mark_at, mark_in, IsHeader, Extent, HasExtent, HasPlaces, IsDepthOf, HasDepths, StandsFor}
use Rattle.readings.proofs.Steps.{bind_ok}
use Rattle.grid_reader.proofs.RunLaws.{are_words, same_words}
use Rattle.grid_reader.proofs.PairLaws.{values_behind}
use Rattle.grid_reader.proofs.FoundLaws.{Told, told}
use Rattle.grid_reader.proofs.HeaderLaws.{AreNeeds, needs_are, needs_back, header_is, has_cols, has_rows, has_cell, has_x, has_y, has_nodata, as_many, finds, cols_found, rows_found, cell_found, x_found, y_found, nodata_found}
use Rattle.grid_reader.proofs.PlaceLaws.{ArePlaced, Lays, lays, lays_back, turned_place}
use Rattle.grid_reader.proofs.DepthLaws.{slice_get_drop, AreDepthsOf, nodes_are, nodes_back}

abbrev lines_of : List ℤ → List ℤ → Lines
lines_of xs ys = record { xs = xs; ys = ys }

-- two sides of two nodes or more have a node
some_nodes : (rows cols : ℕ) → 2 ≤ rows → 2 ≤ cols → 0 < rows * cols
some_nodes rows cols a b = let more : 2 * 2 ≤ rows * cols = mul-le-mul a b in omega arith

abbrev extent_of : Found → Needs → ℕ → ℕ → ℤ → Extent
extent_of f n cols rows cell = record { cols = cols; rows = rows; x = n.x; y = n.y; cell = cell; nodata = nodata_of f }

abbrev grid_of : Lines → List (Option ℤ) → GridView
grid_of lines ds = record { xs = lines.xs; ys = lines.ys; depths = ds }

-- the values by their places
mark_behind : (ws : List Word) (n k : ℕ) → length (pairs ws) ≡ n → mark_at (values ws) k ≡ mark_at ws (2 * n + k)
mark_behind ws n k e = ap (λ vs. mark_at vs k) (values_behind ws) ∙ ap mark_in (slice_get_drop (2 * length (pairs ws)) ws k) ∙ ap (λ m. mark_at ws (2 * m + k)) e

value_count : (ws : List Word) → length (values ws) ≡ length ws - 2 * length (pairs ws)
value_count ws = ap length (values_behind ws) ∙ length-drop (2 * length (pairs ws)) ws

-- the places of the lines
module _ (f : Found) (n : Needs) (lines : Lines) (y : Lays n lines) where
  abbrev extent : Extent
  extent = extent_of f n y.cols y.rows y.cell

  row_place : (k : ℕ) → k < y.rows → place lines.ys k ≡ place y.ys (y.rows - 1 - k)
  row_place k l = ap (λ zs. place zs k) y.turned ∙ turned_place y.ys k y.rows y.placed.ys_are.as_many l

  lines_are : (ds : List (Option ℤ)) → HasPlaces extent (grid_of lines ds)
  lines_are ds = record {
    cols = y.placed.xs_are.as_many;
    rows = ap length y.turned ∙ length-reverse y.ys ∙ y.placed.ys_are.as_many;
    xs = y.placed.xs_are.each;
    ys = λ k l. row_place k l ∙ y.placed.ys_are.each (y.rows - 1 - k) (omega arith);
    longitudes = y.placed.xs_are.within;
    latitudes = λ k l. subst (λ z. unsigned_abs z ≤ 900000000) (sym (row_place k l)) (y.placed.ys_are.within (y.rows - 1 - k) (omega arith));
  }

  depths_are : (sense : Sense) (ws : List Word) (ds : List (Option ℤ)) → node_depths sense (nodata_of f) (length lines.ys * length lines.xs) (values ws) ≡ Ok ds → HasDepths sense ws (length (pairs ws)) extent (grid_of lines ds)
  depths_are sense ws ds h =
      let places = lines_are ds in
      let nodes : length lines.ys * length lines.xs ≡ y.rows * y.cols = ap₂ (λ a b. a * b) places.rows places.cols in
      let some = some_nodes y.rows y.cols y.placed.rows_are.several y.placed.cols_are.several in
      let all = nodes_are sense (nodata_of f) (length lines.ys * length lines.xs) (values ws) ds h in
      let size : length (values ws) ≡ y.rows * y.cols = all.0 ∙ nodes in
      let cut = value_count ws in
      record {
        count = omega arith;
        nodes = all.1.count ∙ size;
        each = λ k l. subst (λ o. IsDepthOf sense (nodata_of f) o (get_or ds k None)) (mark_behind ws (length (pairs ws)) k refl) (all.1.each k (omega arith));
      }

  extent_is : (ws : List Word) → Told (pairs ws) nothing f → AreNeeds f n → HasExtent ws (length (pairs ws)) extent
  extent_is ws t needs = record {
    cols = record { number = n.cols; given = has_cols ws f t n.cols needs.cols; whole = y.placed.cols_are.whole; several = y.placed.cols_are.several; few = y.placed.cols_are.few };
    rows = record { number = n.rows; given = has_rows ws f t n.rows needs.rows; whole = y.placed.rows_are.whole; several = y.placed.rows_are.several; few = y.placed.rows_are.few };
    x = has_x ws f t n.x needs.x;
    y = has_y ws f t n.y needs.y;
    cell = record { number = n.cell; given = has_cell ws f t n.cell needs.cell; size = y.placed.cell_is.size; least = y.placed.cell_is.least; most = y.placed.cell_is.most };
    nodata = has_nodata ws f t;
  }

-- what a text gives it stands for
pub reading_stands : (sense : Sense) (text : List ℕ) (g : GridView) → reading sense text ≡ Ok g → StandsFor sense text g
unfolding reading
reading_stands sense text g h =
    let a = bind_ok (header_of text) (λ found. grid_behind sense found (values (words 0 text))) g h in
    let b = bind_ok (found_from (length text) nothing (pairs (words 0 text))) (λ found. header_ends (values (words 0 text)) >>= (λ end. Ok found)) a.0 a.1 in
    let c = bind_ok (header_ends (values (words 0 text))) (λ end. Ok b.0) a.0 b.2 in
    let t = told (length text) (pairs (words 0 text)) nothing a.0 (b.1 ∙ c.2) in
    let l = bind_ok (places_found a.0) (λ lines. node_depths sense (nodata_of a.0) (length lines.ys * length lines.xs) (values (words 0 text)) >>= (λ ds. Ok (grid_of lines ds))) g a.2 in
    let d = bind_ok (node_depths sense (nodata_of a.0) (length l.0.ys * length l.0.xs) (values (words 0 text))) (λ ds. Ok (grid_of l.0 ds)) g l.2 in
    let n = bind_ok (needs_of a.0) places_of l.0 l.1 in
    let y = lays n.0 l.0 n.2 in
    let made : GridView = grid_of l.0 d.0 in
    let same : made ≡ g = cc (d.2) in
    subst (StandsFor sense text) same (record {
      ws = words 0 text;
      words = are_words text;
      pairs = length (pairs (words 0 text));
      header = header_is (words 0 text) a.0 t;
      extent = extent a.0 n.0 l.0 y;
      values = extent_is a.0 n.0 l.0 y (words 0 text) t (needs_are a.0 n.0 n.1);
      places = lines_are a.0 n.0 l.0 y d.0;
      depths = depths_are a.0 n.0 l.0 y sense (words 0 text) d.0 d.1;
    })

abbrev ended : Result (Unit {0}) GridFault
ended = Ok tt

-- the first value ends the header
ends_well : (sense : Sense) (nodata : Mark) (d : Option ℤ) (us : List Word) → 0 < length us → IsDepthOf sense nodata (mark_at us 0) d → header_ends us ≡ ended
ends_well sense nodata d [] l h = absurd (omega arith)
ends_well sense nodata d (w ∷ us) l h = marked (mark_of w.bytes) h
  where
    marked : (o : Option Mark) → IsDepthOf sense nodata o d → cond (is_some o) ended (Err (fault.Header w.at)) ≡ ended
    marked None h = absurd h
    marked (Some m) h = refl

module _ (sense : Sense) (ws : List Word) (count : ℕ) (header : IsHeader ws count) (e : Extent) (v : HasExtent ws count e) (g : GridView) (p : HasPlaces e g) (d : HasDepths sense ws count e g) where
  abbrev needs : Needs
  needs = record { cols = v.cols.number; rows = v.rows.number; x = e.x; y = e.y; cell = v.cell.number }

  are_placed : ArePlaced needs e.cols e.rows e.cell g.xs (reverse g.ys)
  are_placed = record {
    cols_are = record { whole = v.cols.whole; several = v.cols.several; few = v.cols.few };
    rows_are = record { whole = v.rows.whole; several = v.rows.several; few = v.rows.few };
    cell_is = record { size = v.cell.size; least = v.cell.least; most = v.cell.most };
    xs_are = record { as_many = p.cols; each = p.xs; within = p.longitudes };
    ys_are = record {
      as_many = length-reverse g.ys ∙ p.rows;
      each = λ k l. (let again : e.rows - 1 - (e.rows - 1 - k) ≡ k = omega arith in turned_place g.ys k e.rows p.rows l ∙ p.ys (e.rows - 1 - k) (omega arith) ∙ ap (position (doubled e.y e.cell) e.cell) again);
      within = λ k l. subst (λ z. unsigned_abs z ≤ 900000000) (sym (turned_place g.ys k e.rows p.rows l)) (p.latitudes (e.rows - 1 - k) (omega arith));
    };
  }

  lines_found : places_of needs ≡ Ok (lines_of g.xs g.ys)
  lines_found = lays_back needs e.cols e.rows e.cell g.xs (reverse g.ys) are_placed ∙ ap (λ zs. Ok (lines_of g.xs zs)) (reverse-reverse g.ys)

  nodes : length g.ys * length g.xs ≡ e.rows * e.cols
  nodes = ap₂ (λ a b. a * b) p.rows p.cols

  size : length (values ws) ≡ e.rows * e.cols
  size =
      let cut = value_count ws in
      let many = as_many ws count header in
      let all = d.count in
      omega arith

  are_depths : AreDepthsOf sense e.nodata (values ws) g.depths
  are_depths =
      let many = size in
      record {
        count = d.nodes ∙ sym size;
        each = λ k l. subst (λ o. IsDepthOf sense e.nodata o (get_or g.depths k None)) (sym (mark_behind ws count k (as_many ws count header))) (d.each k (omega arith));
      }

  header_ended : header_ends (values ws) ≡ ended
  header_ended =
      let some = some_nodes e.rows e.cols v.rows.several v.cols.several in
      let many = size in
      ends_well sense e.nodata (get_or g.depths 0 None) (values ws) (omega arith) (are_depths.each 0 (omega arith))

  module _ (end : ℕ) where
    found : Found
    found = (finds ws count header end).0

    is_found : found_from end nothing (pairs ws) ≡ Ok found
    unfolding found
    is_found = (finds ws count header end).1

    tells : Told (pairs ws) nothing found
    tells = told end (pairs ws) nothing found is_found

    has_needs : needs_of found ≡ Ok needs
    has_needs = needs_back found needs (record {
      cols = cols_found ws count header found tells v.cols.number v.cols.given;
      rows = rows_found ws count header found tells v.rows.number v.rows.given;
      x = x_found ws count header found tells e.x v.x;
      y = y_found ws count header found tells e.y v.y;
      cell = cell_found ws count header found tells v.cell.number v.cell.given;
    })

    read_depths : node_depths sense (nodata_of found) (length g.ys * length g.xs) (values ws) ≡ Ok g.depths
    read_depths =
        ap (λ m. node_depths sense m (length g.ys * length g.xs) (values ws)) (nodata_found ws count header found tells e.nodata v.nodata)
        ∙ nodes_back sense e.nodata (length g.ys * length g.xs) (values ws) g.depths (size ∙ sym nodes) are_depths

    read_grid : grid_behind sense found (values ws) ≡ Ok g
    read_grid =
        ap (λ r. (r >>= places_of) >>= (λ lines. node_depths sense (nodata_of found) (length lines.ys * length lines.xs) (values ws) >>= (λ ds. Ok (grid_of lines ds)))) has_needs
        ∙ ap (λ r. r >>= (λ lines. node_depths sense (nodata_of found) (length lines.ys * length lines.xs) (values ws) >>= (λ ds. Ok (grid_of lines ds)))) lines_found
        ∙ ap (λ r. r >>= (λ ds. Ok (grid_of (lines_of g.xs g.ys) ds))) read_depths

    read_all : ((found_from end nothing (pairs ws) >>= (λ found'. header_ends (values ws) >>= (λ last. Ok found'))) >>= (λ found'. grid_behind sense found' (values ws))) ≡ Ok g
    read_all =
        ap (λ r. (r >>= (λ found'. header_ends (values ws) >>= (λ last. Ok found'))) >>= (λ found'. grid_behind sense found' (values ws))) is_found
        ∙ ap (λ r. (r >>= (λ last. Ok found)) >>= (λ found'. grid_behind sense found' (values ws))) header_ended
        ∙ read_grid

-- what a text stands for it gives
pub stands_reading : (sense : Sense) (text : List ℕ) (g : GridView) → StandsFor sense text g → reading sense text ≡ Ok g
unfolding reading
stands_reading sense text g s =
    let same : s.ws ≡ words 0 text = same_words text s.ws (words 0 text) s.words (are_words text) in
    subst (λ ws. ((found_from (length text) nothing (pairs ws) >>= (λ found'. header_ends (values ws) >>= (λ last. Ok found'))) >>= (λ found'. grid_behind sense found' (values ws))) ≡ Ok g) same
    (read_all sense s.ws s.pairs s.header s.extent s.values g s.places s.depths (length text))

pub stands_law : (sense : Sense) (text : List ℕ) (g : GridView) → StandsFor sense text g ↔ (reading sense text ≡ Ok g)
stands_law sense text g = (stands_reading sense text g, reading_stands sense text g)

-- a text that gives a fault stands for no grid
pub fault_stands : (sense : Sense) (text : List ℕ) (e : GridFault) → reading sense text ≡ Err e → (g : GridView) → ¬ (StandsFor sense text g)
fault_stands sense text e h g s = let other = stands_reading sense text g s in cc

header_fault : (sense : Sense) (text : List ℕ) (e : GridFault) → header_of text ≡ Err e → reading sense text ≡ Err e
unfolding reading
header_fault sense text e h = ap (λ r. r >>= (λ f. grid_behind sense f (values (words 0 text)))) h

pub header_fault_stands : (sense : Sense) (text : List ℕ) (e : GridFault) → header_of text ≡ Err e → (g : GridView) → ¬ (StandsFor sense text g)
header_fault_stands sense text e h = fault_stands sense text e (header_fault sense text e h)

-- what a function gives behind the header
behind : (sense : Sense) (text : List ℕ) (f : Found) (us : List Word) → header_of text ≡ Ok f → values (words 0 text) ≡ us → reading sense text ≡ grid_behind sense f us
unfolding reading
behind sense text f us h e = ap (λ r. r >>= (λ f'. grid_behind sense f' (values (words 0 text)))) h ∙ ap (grid_behind sense f) e

failed : (e : GridFault) (read : Result GridView GridFault) → Unless (is_memory e) (read ≡ Err e) → (e ≡ fault.NoMemory → ⊥) → read ≡ Err e
failed fault.NoMemory read h n = absurd (n refl)
failed e read h n = h

module _ {X : Type 0} (view : X → GridView) (sense : Sense) (text : List ℕ) (f : Found) (us : List Word) (head : header_of text ≡ Ok f) (rest : values (words 0 text) ≡ us) where
  pub given_stands : (r : Result X GridFault) → Gives view r (grid_behind sense f us) → IfOk r (λ x. StandsFor sense text (view x))
  given_stands (Ok x) h = reading_stands sense text (view x) (behind sense text f us head rest ∙ h)
  given_stands (Err e) h = tt

  pub given_none : (r : Result X GridFault) → Gives view r (grid_behind sense f us) → IfErr r (λ e. (e ≡ fault.NoMemory → ⊥) → (g : GridView) → ¬ (StandsFor sense text g))
  given_none (Ok x) h = tt
  given_none (Err e) h = λ n. fault_stands sense text e (behind sense text f us head rest ∙ failed e (grid_behind sense f us) h n)
