-- The soundings of made parts: those of a selection by the sheet's radii, 2,000 at an isolated node.
use Rattle.std.proofs.Common.{◌≡◌, ℕ, zero, suc, ◌+◌, ◌-◌, ◌*◌, ◌/◌, ◌<◌, ◌≤◌, ◌==◌, ◌⊎◌, min, Bool, true, false, cond, List, [], ◌∷◌, ◌++◌, map, flat_map, take, drop, length, get_or, All, refl, sym, ap, ap₂, ◌∙◌, subst, inl, inr, ⊎_elim, arith, eq-eqb}
use Rattle.std.specs.List.{range_with_len}
use Rattle.std.proofs.lemmas.Bool.{eqb-true, false≢true, or_cases}
use Rattle.std.proofs.lemmas.List.{drop-drop, drop_all, get_or-take, length-drop, length-map, length-take, length-take-le, map-append, take-append-drop}
use Rattle.std.proofs.lemmas.List.FromFn.{get_or-map-range_with_len, length-map-range_with_len}
use Rattle.std.proofs.lemmas.List.Sums.{count_by-le-length}
use Rattle.chart_definitions.specs.Coverage.{pointers_of}
use Rattle.chart_definitions.specs.Meaning.{of_code}
use Rattle.chart_definitions.specs.Soundings.{HasSoundings, radii_of, sounding_pointers}
use Rattle.chart_model.specs.Tally.{soundings_of}
use Rattle.chart_model.specs.declared.records.Isolated.{Isolated}
use Rattle.chart_model.specs.declared.records.Parts.{Parts}
use Rattle.built_parts.specs.Contours.{sounding_content}
use Rattle.built_parts.specs.Contents.{FeatureContent, content_of, pointer}
use Rattle.built_parts.specs.Made.{AreMade, AreRadii}
use Rattle.built_parts.specs.Nodes.{isolated_record, isolated_records, nodes_in, sounding_of}
use Rattle.depth_grid.specs.Disc.{near}
use Rattle.depth_grid.specs.Grid.{GridView}
use Rattle.depth_grid.specs.declared.disc.Radii.{Radii}
use Rattle.depth_grid.specs.declared.node.NodeId.{NodeId}
use Rattle.depth_rounding.specs.Bands.{band_of}
use Rattle.parts_laws.proofs.Lists.{map_twice}
use Rattle.ring_builder.proofs.Orders.{flat_map_map}
use Rattle.parts_laws.proofs.Chart.FeatureKinds.{sorted}
use Rattle.rule_sheet.specs.Values.{IsSheet, SheetView}
use Rattle.s57_codes.specs.Catalogue.{null, objl_soundg, rcnm_isolated_node}
use Rattle.shoal_buffer.specs.Charted.{ChartedView}
use Rattle.sounding_select.specs.Selection.{IsSelection, charted_depth, covers, radius_of}
use Rattle.std.specs.Int.{abs_diff}

-- ---- the radii

module _ (s : SheetView) (radii : Radii) (sheet : IsSheet s) (are : AreRadii s radii) (few : radii.count ≤ length radii.radius) where
  as_many : radii.count ≡ length s.sounding_radius
  as_many = sym (length-take-le radii.count radii.radius few) ∙ ap length are.each

  one_or_each : (length s.sounding_radius ≡ 1) ⊎ (length s.sounding_radius ≡ length s.levels + 1)
  one_or_each = ⊎_elim
      (λ e. inl (eqb-true (length s.sounding_radius) 1 e))
      (λ e. inr (eqb-true (length s.sounding_radius) (length s.levels + 1) e))
      (or_cases (length s.sounding_radius == 1) (length s.sounding_radius == length s.levels + 1) sheet.one_or_each)

  -- the place of a band's radius
  place_of : ℕ → ℕ → ℕ
  place_of count band = cond (count == 1) 0 band

  placed : (count band : ℕ) → (count ≡ 1) ⊎ (band < count) → place_of count band < count
  unfolding place_of
  placed count band h = go (count == 1) refl
    where
      go : (b : Bool) → (count == 1) ≡ b → cond b 0 band < count
      go true e = let one = eqb-true count 1 e in omega (arith, one)
      go false e = ⊎_elim (λ one. absurd (false≢true (sym e ∙ eq-eqb count 1 one))) (λ l. l) h

  radius_same : (band : ℕ) → band ≤ length s.levels → radius_of radii band ≡ radius_of (radii_of s) band
  unfolding place_of
  radius_same band l =
      let there : place_of radii.count band < radii.count = placed radii.count band (⊎_elim (λ e. inl (as_many ∙ e)) (λ e. inr (omega (arith, as_many, e, l))) one_or_each) in
      sym (get_or-take radii.count radii.radius (place_of radii.count band) 0 there)
      ∙ ap₂ (λ xs n. get_or xs (place_of n band) 0) are.each as_many

  covers_same : (v : ChartedView) (p q : NodeId) → covers v s.levels radii p q ≡ covers v s.levels (radii_of s) p q
  covers_same v p q =
      let band = band_of s.levels (charted_depth v p) in
      ap₂ (λ a r. near a r (abs_diff q.row p.row) (abs_diff q.col p.col)) are.aspect (radius_same band (count_by-le-length _ s.levels))

  -- a selection reads nothing of radii beyond the sheet's
  pub selection_same : (v : ChartedView) (chosen : List NodeId) → IsSelection v s.levels radii chosen → IsSelection v s.levels (radii_of s) chosen
  selection_same v chosen h = record {
    in_order = h.in_order;
    exactly = λ q. (
      λ c. let r = (h.exactly q).0 c in (r.0, λ p i b t. r.1 p i b (covers_same v p q ∙ t)),
      λ r. (h.exactly q).1 (r.0, λ p i b t. r.1 p i b (sym (covers_same v p q) ∙ t)),
    );
  }

-- ---- so many at a time

joined : {X Y : Type 0} (f : X → Y) (size a n : ℕ) (xs : List X) → length xs ≤ size * a + size * n → flat_map (λ p. map f (take size (drop (size * p) xs))) (range_with_len a n) ≡ map f (drop (size * a) xs)
joined f size a zero xs l = sym (ap (map f) (drop_all (size * a) xs (omega arith)))
joined f size a (suc n) xs l =
    let ys = drop (size * a) xs in
    let rest : drop (size * (a + 1)) xs ≡ drop size ys = ap (λ k. drop k xs) next ∙ sym (drop-drop size (size * a) xs) in
    ap (λ t. map f (take size ys) ++ t) (joined f size (a + 1) n xs (omega (arith, next, l)) ∙ ap (map f) rest)
    ∙ sym (map-append f (take size ys) (drop size ys))
    ∙ ap (map f) (take-append-drop size ys)
  where
    next : size * (a + 1) ≡ size * a + size
    next = omega arith

module _ (v : ChartedView) (chosen : List NodeId) where
  abbrev records : ℕ
  records = (length chosen + 1999) / 2000

  abbrev record_at : ℕ → Isolated
  record_at place = isolated_record v (place + 1) (nodes_in chosen place)

  enough : length chosen ≤ 2000 * 0 + 2000 * records
  enough = omega arith

  all_points : flat_map soundings_of (isolated_records v chosen) ≡ map (sounding_of v) chosen
  all_points = flat_map_map soundings_of record_at (range_with_len 0 records) ∙ joined (sounding_of v) 2000 0 records chosen enough

  how_many : (k : ℕ) → length (soundings_of (record_at k)) ≡ min 2000 (length chosen - 2000 * k)
  how_many k = length-map (nodes_in chosen k) (sounding_of v) ∙ length-take 2000 (drop (2000 * k) chosen) ∙ ap (min 2000) (length-drop (2000 * k) chosen)

  count_is : length (isolated_records v chosen) ≡ records
  count_is = length-map-range_with_len record_at 0 records

  at : (k : ℕ) (d : Isolated) → k < records → get_or (isolated_records v chosen) k d ≡ record_at k
  at k d l = get_or-map-range_with_len record_at 0 records k k d l (omega arith)

  all_full : (k : ℕ) (d : Isolated) → k + 1 < length (isolated_records v chosen) → length (soundings_of (get_or (isolated_records v chosen) k d)) ≡ 2000
  all_full k d l =
      let n = count_is in
      ap (λ r. length (soundings_of r)) (at k d (omega (arith, n, l))) ∙ how_many k ∙ two_thousand (omega (arith, n, l))
    where
      two_thousand : k + 1 < records → min 2000 (length chosen - 2000 * k) ≡ 2000
      two_thousand l = omega arith

  all_some : All (λ n. (1 ≤ length (soundings_of n)) × (length (soundings_of n) ≤ 2000)) (isolated_records v chosen)
  all_some k d l =
      let n = count_is in
      let inside : k < records = omega (arith, n, l) in
      let many = ap (λ r. length (soundings_of r)) (at k d inside) ∙ how_many k in
      (omega (arith, many, inside), omega (arith, many))

module _ (g : GridView) (s : SheetView) (c : Parts) (sheet : IsSheet s) (m : AreMade g s c) (few : m.radii.count ≤ length m.radii.radius) where
  pointers_are : pointers_of objl_soundg c ≡ map sounding_pointers c.isolated
  pointers_are =
      let k = sorted s.levels s.catzoc m.low m.high m.faces m.arcs.arcs m.blocks (length c.isolated) c m.features in
      let chosen = m.isolated.chosen in
      sym (map_twice (λ (d : FeatureContent). d.pointers) content_of (of_code objl_soundg c))
      ∙ ap (map (λ (d : FeatureContent). d.pointers)) k.soundings
      ∙ map_twice (λ (d : FeatureContent). d.pointers) sounding_content (range_with_len 0 (length c.isolated))
      ∙ ap (λ n. map (λ k. pointer rcnm_isolated_node (k + 1) null ∷ []) (range_with_len 0 n)) (ap length m.isolated.are ∙ count_is m.view chosen)
      ∙ sym (map_twice sounding_pointers (record_at m.view chosen) (range_with_len 0 (records m.view chosen)))
      ∙ ap (map sounding_pointers) (sym m.isolated.are)

  -- the soundings of made parts are those of the sheet, where each radius that counts is there
  pub soundings_are : HasSoundings m.view s c
  soundings_are = record {
    chosen = m.isolated.chosen;
    selected = selection_same s m.radii sheet m.radii_are few m.view m.isolated.chosen m.isolated.selected;
    points = ap (flat_map soundings_of) m.isolated.are ∙ all_points m.view m.isolated.chosen;
    full = subst (λ xs. (k : ℕ) (d : Isolated) → k + 1 < length xs → length (soundings_of (get_or xs k d)) ≡ 2000) (sym m.isolated.are) (all_full m.view m.isolated.chosen);
    some = subst (All (λ n. (1 ≤ length (soundings_of n)) × (length (soundings_of n) ≤ 2000))) (sym m.isolated.are) (all_some m.view m.isolated.chosen);
    features = pointers_are;
  }
