-- Counters after more sub-segments.
use Rattle.std.proofs.Common.{◌≡◌, ℕ, ◌+◌, ◌-◌, ◌<◌, ◌≤◌, min, Bool, true, false, cond, Some, None, List, [], ◌∷◌, ◌++◌, length, get_or, map, refl, sym, ap, ap₂, ◌∙◌, subst, arith}
use Rattle.std.specs.Prelude.{Option, option_map, is_some, flat_map, sum_by, Contains, IfSome}
use Rattle.std.specs.List.{range_with_len}
use Rattle.std.proofs.lemmas.List.{append-nil, append_assoc, map-id}
use Rattle.std.proofs.lemmas.List.Concat.{flat_map-append}
use Rattle.std.proofs.lemmas.List.FromFn.{map-range_with_len_more}
use Rattle.std.proofs.lemmas.List.Sums.{sum_by-append, sum_by-cons}
use Rattle.mesh_definitions.specs.Field.{Field}
use Rattle.mesh_definitions.specs.Mesh.{Walk, each_place, has_cell, links, right_tri, surveyed}
use Rattle.mesh_definitions.specs.Pieces.{Mesh, ahead, greatest_band, least_band, left_of, chord_levels, part_bands, piece_at, pieces_of, span}
use Rattle.mesh_definitions.specs.declared.Link.{Link}
use Rattle.mesh_definitions.specs.declared.Piece.{Piece}
use Rattle.mesh_definitions.specs.declared.Rect.{Rect}
use Rattle.mesh_definitions.specs.declared.Sub.TheVariants.{Part}
use Rattle.mesh_definitions.specs.declared.Sub.{Sub}
use Rattle.mesh_definitions.specs.declared.Tri.{Tri}
use Rattle.mesh_definitions.specs.declared.Way.TheVariants.{Across, Down, Slant}
use Rattle.mesh_definitions.specs.declared.Way.{Way}
use Rattle.face_fill.specs.Beside.{has_part}
use Rattle.face_fill.specs.Corners.{IsLinkIn}
use Rattle.face_fill.specs.Ends.{count_surveyed}
use Rattle.face_fill.specs.Legs.{leg_of_right}
use Rattle.face_fill.specs.Listed.{InMesh}
use Rattle.face_fill.specs.Listing.{in_first, in_rest, of_map}
use Rattle.face_fill.specs.Tallies.{differs, one_sided, is_of, is_numbered, most, raised, IsTally, Raises, Adds}
use Rattle.face_fill.specs.BandTableView.{field_by}
use Rattle.face_fill.specs.TallyView.{AddsTo, ShareAnItem, link_of, mesh_by, number_by, parts_of}
use Rattle.face_fill.specs.declared.tables.PieceTable.{PieceTable}
use Rattle.face_fill.specs.declared.tables.Seat.{Seat}
use Rattle.face_fill.specs.declared.tables.Tally.{Tally}

-- ---- one counter

raised_min : (b : Bool) (n : ℕ) → raised b (min n most) ≡ min (n + cond b 1 0) most
raised_min true n = omega arith
raised_min false n = omega arith

numbered_is : (number : Piece → ℕ) (k : ℕ) (o : Option Piece) → is_numbered k (option_map number o) ≡ is_of number k o
numbered_is number k None = refl
numbered_is number k (Some q) = refl

some_is : (number : Piece → ℕ) (o : Option Piece) → is_some (option_map number o) ≡ is_some o
some_is number None = refl
some_is number (Some q) = refl

module _ (m : Mesh) (number : Piece → ℕ) where
  one_more : (passes : Option Piece → Bool) (done : List Sub) (s : Sub) → one_sided m passes (done ++ s ∷ []) ≡ one_sided m passes done + cond (differs (passes (m.right_of (ahead s))) (passes (left_of m (ahead s)))) 1 0
  one_more passes done s =
      let f : Sub → ℕ = λ s. cond (differs (passes (m.right_of (ahead s))) (passes (left_of m (ahead s)))) 1 0 in
      let a : sum_by f (done ++ s ∷ []) ≡ sum_by f done + sum_by f (s ∷ []) = sum_by-append f done (s ∷ []) in
      let b : sum_by f (s ∷ []) ≡ f s + sum_by f [] = sum_by-cons f s [] in
      omega (arith, a, b)

  pub adds_one : (s : Sub) (right left : Option ℕ) (old new : Tally) → Raises right left old new → right ≡ option_map number (m.right_of (ahead s)) → left ≡ option_map number (left_of m (ahead s)) → Adds m number (s ∷ []) old new
  adds_one s right left old new r e g = record {
    full = r.full;
    grows = λ done h. record {
      faces = λ k l.
          let d : differs (is_numbered k right) (is_numbered k left) ≡ differs (is_of number k (m.right_of (ahead s))) (is_of number k (left_of m (ahead s))) =
          ap₂ differs (ap (is_numbered k) e ∙ numbered_is number k (m.right_of (ahead s))) (ap (is_numbered k) g ∙ numbered_is number k (left_of m (ahead s))) in
          let inside : k < length old.counts.items = omega (arith, l, r.full) in
          r.faces k inside ∙ (ap₂ raised d (h.faces k inside)
          ∙ (raised_min (differs (is_of number k (m.right_of (ahead s))) (is_of number k (left_of m (ahead s)))) (one_sided m (is_of number k) done)
          ∙ ap (λ n. min n most) (sym (one_more (is_of number k) done s))));
      outline =
          let d : differs (is_some right) (is_some left) ≡ differs (is_some (m.right_of (ahead s))) (is_some (left_of m (ahead s))) =
          ap₂ differs (ap is_some e ∙ some_is number (m.right_of (ahead s))) (ap is_some g ∙ some_is number (left_of m (ahead s))) in
          r.outline ∙ (ap₂ raised d h.outline
          ∙ (raised_min (differs (is_some (m.right_of (ahead s))) (is_some (left_of m (ahead s)))) (one_sided m is_some done)
          ∙ ap (λ n. min n most) (sym (one_more is_some done s))));
    };
  }

  -- ---- more and more

  pub adds_none : (t : Tally) → Adds m number [] t t
  adds_none t = record { full = refl; grows = λ done h. subst (λ d. IsTally m number d t) (sym (append-nil done)) h }

  pub adds_then : (xs ys : List Sub) (t u v : Tally) → Adds m number xs t u → Adds m number ys u v → Adds m number (xs ++ ys) t v
  adds_then xs ys t u v a b = record {
    full = b.full ∙ a.full;
    grows = λ done h. subst (λ d. IsTally m number d v) (append_assoc done xs ys) (b.grows (done ++ xs) (a.grows done h));
  }

  pub adds_same : (xs ys : List Sub) (t u : Tally) → xs ≡ ys → Adds m number xs t u → Adds m number ys t u
  adds_same xs ys t u e h = subst (λ zs. Adds m number zs t u) e h

  -- sub-segments with one number on both sides are counted nowhere
  raises_not : (k : ℕ) (t : Tally) → Raises (Some k) (Some k) t t
  raises_not k t = record { full = refl; faces = λ i l. same (is_numbered i (Some k)) (get_or t.counts.items i 0); outline = refl }
    where
      same : (b : Bool) (n : ℕ) → n ≡ raised (differs b b) n
      same true n = refl
      same false n = refl

  pub adds_nothing : (subs : List Sub) → ((s : Sub) → Contains subs s → (a : Piece) × (b : Piece) × (m.right_of (ahead s) ≡ Some a) × (left_of m (ahead s) ≡ Some b) × (number a ≡ number b)) → (t : Tally) → Adds m number subs t t
  adds_nothing [] h t = adds_none t
  adds_nothing (s ∷ subs) h t =
      let g = h s (in_first s subs) in
      let one = adds_one s (Some (number g.0)) (Some (number g.0)) t t (raises_not (number g.0) t) (sym (ap (option_map number) g.2)) (ap Some g.4 ∙ sym (ap (option_map number) g.3)) in
      adds_then (s ∷ []) subs t t t one (adds_nothing subs (λ x c. h x (in_rest s x subs c)) t)

  -- ---- over a range

  pub range_begun : (make : ℕ → List Sub) (a n : ℕ) (t : Tally) → n ≡ 0 → Adds m number (flat_map make (range_with_len a n)) t t
  range_begun make a n t e = subst (λ n. Adds m number (flat_map make (range_with_len a n)) t t) (sym e) (adds_none t)

  next_range : (a n j : ℕ) → a + n ≡ j → range_with_len a (n + 1) ≡ range_with_len a n ++ j ∷ []
  next_range a n j e =
      let k : map (λ x. x) (range_with_len a (n + 1)) ≡ map (λ x. x) (range_with_len a n) ++ j ∷ [] = map-range_with_len_more (λ x. x) a n j e in
      sym (map-id (range_with_len a (n + 1))) ∙ (k ∙ ap (λ xs. xs ++ j ∷ []) (map-id (range_with_len a n)))

  pub range_more : (make : ℕ → List Sub) (a n j k : ℕ) (t u v : Tally) → Adds m number (flat_map make (range_with_len a n)) t u → Adds m number (make j) u v → a + n ≡ j → k ≡ n + 1 → Adds m number (flat_map make (range_with_len a k)) t v
  range_more make a n j k t u v h g e l =
      let s : flat_map make (range_with_len a n ++ j ∷ []) ≡ flat_map make (range_with_len a n) ++ make j = flat_map-append make (range_with_len a n) (j ∷ []) ∙ ap (λ ys. flat_map make (range_with_len a n) ++ ys) (append-nil (make j)) in
      adds_same (flat_map make (range_with_len a n) ++ make j) (flat_map make (range_with_len a k)) t v (sym (ap (λ n. flat_map make (range_with_len a n)) l ∙ (ap (flat_map make) (next_range a n j e) ∙ s)))
      (adds_then (flat_map make (range_with_len a n)) (make j) t u v h g)

  pub map_begun : (make : ℕ → Sub) (a n : ℕ) (t : Tally) → n ≡ 0 → Adds m number (map make (range_with_len a n)) t t
  map_begun make a n t e = subst (λ n. Adds m number (map make (range_with_len a n)) t t) (sym e) (adds_none t)

  pub map_more : (make : ℕ → Sub) (a n j k : ℕ) (t u v : Tally) → Adds m number (map make (range_with_len a n)) t u → Adds m number (make j ∷ []) u v → a + n ≡ j → k ≡ n + 1 → Adds m number (map make (range_with_len a k)) t v
  map_more make a n j k t u v h g e l =
      adds_same (map make (range_with_len a n) ++ make j ∷ []) (map make (range_with_len a k)) t v (sym (ap (λ n. map make (range_with_len a n)) l ∙ map-range_with_len_more make a n j e))
      (adds_then (map make (range_with_len a n)) (make j ∷ []) t u v h g)

-- ---- links

-- a triangle on a side of a link has a piece at each of its parts
pub part_piece : (f : Field) (r : Rect) (w : Walk) (b : ℕ) (o : Option Tri) → o ≡ right_tri r w → Contains (part_bands f w.link) b → IfSome o (λ t. InMesh f r (piece_at f b t))
part_piece f r w b None e c = tt
part_piece f r w b (Some t) e c = has_part f r t w b (leg_of_right r w t (sym e)) c

-- ---- small facts

pub weaker : {X : Type 0} (P Q : X → Type 0) (o : Option X) → ((x : X) → P x → Q x) → IfSome o P → IfSome o Q
weaker P Q None h i = tt
weaker P Q (Some x) h i = h x i

pub option_map_map : {X Y Z : Type 0} (g : Y → Z) (h : X → Y) (o : Option X) → option_map (λ x. g (h x)) o ≡ option_map g (option_map h o)
option_map_map g h None = refl
option_map_map g h (Some x) = refl

pub flat_map_same : {X Y : Type 0} (g h : X → List Y) → ((x : X) → g x ≡ h x) → (xs : List X) → flat_map g xs ≡ flat_map h xs
flat_map_same g h e [] = refl
flat_map_same g h e (x ∷ xs) = ap₂ (λ a b. a ++ b) (e x) (flat_map_same g h e xs)

pub flat_map_flat_map : {X Y Z : Type 0} (G : Y → List Z) (g : X → List Y) (xs : List X) → flat_map G (flat_map g xs) ≡ flat_map (λ x. flat_map G (g x)) xs
flat_map_flat_map G g [] = refl
flat_map_flat_map G g (x ∷ xs) = flat_map-append G (g x) (flat_map g xs) ∙ ap (λ ys. flat_map G (g x) ++ ys) (flat_map_flat_map G g xs)

-- what is made of places, place by place
pub each_place_flat : {X Z : Type 0} (G : X → List Z) (make : ℕ → ℕ → List X) (row rows col cols : ℕ) → flat_map G (each_place row rows col cols make) ≡ flat_map (λ i. flat_map (λ j. flat_map G (make i j)) (range_with_len col cols)) (range_with_len row rows)
each_place_flat G make row rows col cols =
    flat_map_flat_map G (λ i. flat_map (make i) (range_with_len col cols)) (range_with_len row rows)
    ∙ flat_map_same (λ i. flat_map G (flat_map (make i) (range_with_len col cols))) (λ i. flat_map (λ j. flat_map G (make i j)) (range_with_len col cols)) (λ i. flat_map_flat_map G (make i) (range_with_len col cols)) (range_with_len row rows)

abbrev pub only : Way → ℕ → ℕ → List Link
only way i j = link_of way i j ∷ []

links_flat : (G : Link → List Sub) (way : Way) (row rows col cols : ℕ) → flat_map G (each_place row rows col cols (only way)) ≡ flat_map (λ i. flat_map (λ j. G (link_of way i j)) (range_with_len col cols)) (range_with_len row rows)
links_flat G way row rows col cols =
    each_place_flat G (only way) row rows col cols
    ∙ flat_map_same (λ i. flat_map (λ j. flat_map G (only way i j)) (range_with_len col cols)) (λ i. flat_map (λ j. G (link_of way i j)) (range_with_len col cols))
    (λ i. flat_map_same (λ j. flat_map G (only way i j)) (λ j. G (link_of way i j)) (λ j. append-nil (G (link_of way i j))) (range_with_len col cols)) (range_with_len row rows)

-- the sub-segments of the links of a rectangle, way by way
pub all_links : (G : Link → List Sub) (r : Rect) → flat_map G (links r) ≡ flat_map (λ i. flat_map (λ j. G (link_of Across i j)) (range_with_len r.col r.cols)) (range_with_len r.row (r.rows + 1))
    ++ flat_map (λ i. flat_map (λ j. G (link_of Down i j)) (range_with_len r.col (r.cols + 1))) (range_with_len r.row r.rows)
    ++ flat_map (λ i. flat_map (λ j. G (link_of Slant i j)) (range_with_len r.col r.cols)) (range_with_len r.row r.rows)
all_links G r =
    let across = each_place r.row (r.rows + 1) r.col r.cols (only Across) in
    let down = each_place r.row r.rows r.col (r.cols + 1) (only Down) in
    let slant = each_place r.row r.rows r.col r.cols (only Slant) in
    flat_map-append G (across ++ down) slant
    ∙ ap₂ (λ a b. a ++ b) (flat_map-append G across down ∙ ap₂ (λ a b. a ++ b) (links_flat G Across r.row (r.rows + 1) r.col r.cols) (links_flat G Down r.row r.rows r.col (r.cols + 1))) (links_flat G Slant r.row r.rows r.col r.cols)

pub link_in : (r : Rect) (i j : ℕ) → r.row ≤ i → r.col ≤ j →
    ((i ≤ r.row + r.rows → j < r.col + r.cols → IsLinkIn r (link_of Across i j)) × (i < r.row + r.rows → j ≤ r.col + r.cols → IsLinkIn r (link_of Down i j)) × (i < r.row + r.rows → j < r.col + r.cols → IsLinkIn r (link_of Slant i j)))
link_in r i j n w = (
  λ s e. record { from = record { north = n; south = s; west = w; east = omega (arith, e) }; to = record { north = n; south = s; west = omega (arith, w); east = omega (arith, e) } },
  λ s e. record { from = record { north = n; south = omega (arith, s); west = w; east = e }; to = record { north = omega (arith, n); south = omega (arith, s); west = w; east = e } },
  λ s e. record { from = record { north = omega (arith, n); south = omega (arith, s); west = w; east = omega (arith, e) }; to = record { north = n; south = omega (arith, s); west = omega (arith, w); east = omega (arith, e) } },
)

-- a band between the ends of a surveyed triangle is a piece's
pub band_piece : (f : Field) (r : Rect) (t : Tri) (b : ℕ) → has_cell r t.row t.col ≡ true → surveyed f t ≡ true → least_band f t ≤ b → b ≤ greatest_band f t → InMesh f r (piece_at f b t)
band_piece f r t b c s l h =
    let n = count_surveyed f t s in
    let e : cond (surveyed f t) b 0 ≡ b = ap (λ s. cond s b 0) s in
    record { cell = c; low = omega (arith, e, n.0, l); high = omega (arith, e, n.0, n.1, l, h) }

-- the parts of a link whose triangles share an item are counted nowhere
pub run_counts_nothing : (p : PieceTable) (numbers : List ℕ) (l : Link) (right left : Option Tri) → right ≡ right_tri p.nodes.rect (record { link = l; forward = true }) → left ≡ right_tri p.nodes.rect (record { link = l; forward = false })
    → ShareAnItem p right left → (t : Tally) → AddsTo p numbers (parts_of p l) t t
run_counts_nothing p numbers l None left e g h t = absurd h
run_counts_nothing p numbers l (Some a) None e g h t = absurd h
run_counts_nothing p numbers l (Some a) (Some b) e g h t = adds_nothing (mesh_by p) (number_by p numbers) (parts_of p l) sides t
  where
    f : Field
    f = field_by p.nodes

    at : (k : ℕ) → Contains (part_bands f l) k → (s : Sub) → Part l k ≡ s → (x : Piece) × (y : Piece) × ((mesh_by p).right_of (ahead s) ≡ Some x) × (left_of (mesh_by p) (ahead s) ≡ Some y) × (number_by p numbers x ≡ number_by p numbers y)
    at k c s is =
        let x = has_part f p.nodes.rect a (record { link = l; forward = true }) k (leg_of_right p.nodes.rect (record { link = l; forward = true }) a (sym e)) c in
        let y = has_part f p.nodes.rect b (record { link = l; forward = false }) k (leg_of_right p.nodes.rect (record { link = l; forward = false }) b (sym g)) c in
        subst (λ s. (x : Piece) × (y : Piece) × ((mesh_by p).right_of (ahead s) ≡ Some x) × (left_of (mesh_by p) (ahead s) ≡ Some y) × (number_by p numbers x ≡ number_by p numbers y)) is
        (piece_at f k a, piece_at f k b, sym (ap (option_map (piece_at f k)) e), sym (ap (option_map (piece_at f k)) g), ap (λ i. get_or numbers i 0) (h (piece_at f k a) (piece_at f k b) x y refl refl))

    sides : (s : Sub) → Contains (parts_of p l) s → (x : Piece) × (y : Piece) × ((mesh_by p).right_of (ahead s) ≡ Some x) × (left_of (mesh_by p) (ahead s) ≡ Some y) × (number_by p numbers x ≡ number_by p numbers y)
    sides s c = let k = of_map (Part l) (part_bands f l) s c in at k.0 k.1 s k.2

-- what holds of an optional triangle holds of the triangle of its seat
pub of_seat : (P : Tri → Type 0) (o : Option Seat) (t : Option Tri) → option_map (λ (s : Seat). s.tri) o ≡ t → IfSome t P → IfSome o (λ (s : Seat). P s.tri)
of_seat P None t e h = tt
of_seat P (Some s) t e h = subst (λ t. IfSome t P) (sym e) h

-- a triangle with one piece has no chords
pub no_chords : (f : Field) (t : Tri) → length (pieces_of f t) ≡ 1 → chord_levels f t ≡ []
no_chords f t one = by (surveyed f t) refl
  where
    by : (b : Bool) → surveyed f t ≡ b → cond b (span (least_band f t + 1) (greatest_band f t)) [] ≡ []
    by true e = let n = count_surveyed f t e in let z : greatest_band f t + 1 - (least_band f t + 1) ≡ 0 = omega (arith, n.1, one) in ap (range_with_len (least_band f t + 1)) z
    by false e = refl
