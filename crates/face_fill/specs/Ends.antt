-- The bands at the ends of a triangle's legs, and what they give: parts of links, chords and pieces.
use Rattle.std.proofs.Common.{◌≡◌, ℕ, ◌+◌, ◌-◌, ◌<◌, ◌≤◌, min, max, Bool, true, false, cond, ◌&&◌, Some, None, [], ◌∷◌, length, map, refl, sym, ap, ◌∙◌, subst, arith}
use Rattle.std.specs.Prelude.{Option, is_some, Contains}
use Rattle.std.specs.List.{range_with_len}
use Rattle.std.proofs.lemmas.Bool.{and_parts}
use Rattle.std.proofs.lemmas.Bool.Decides.{nat_tests}
use Rattle.std.proofs.lemmas.List.{length-map}
use Rattle.std.proofs.lemmas.List.FromFn.{length-range_with_len}
use Rattle.mesh_definitions.proofs.Bands.{band_known}
use Rattle.mesh_definitions.specs.Field.{Field, band_at, node_band}
use Rattle.mesh_definitions.specs.Mesh.{first, second, surveyed}
use Rattle.mesh_definitions.specs.Pieces.{span, least_band, greatest_band, pieces_of, chord_levels, part_bands}
use Rattle.mesh_definitions.specs.declared.Link.{Link}
use Rattle.mesh_definitions.specs.declared.Piece.{Piece}
use Rattle.mesh_definitions.specs.declared.Tri.{Tri}
use Rattle.mesh_definitions.specs.declared.Way.TheVariants.{Across, Down, Slant}
use Rattle.mesh_definitions.specs.declared.Way.{Way}
use Rattle.depth_grid.specs.declared.node.NodeId.{NodeId}
use Rattle.face_fill.specs.Numbered.{first_band}
use Rattle.face_fill.specs.Items.{tri_of, leg, passes, piece_by}
use Rattle.face_fill.specs.Legs.{each_leg}
use Rattle.face_fill.specs.Listing.{in_range, of_range, in_map, of_map, in_first, in_nothing}

-- ---- a link between two nodes with data, whose bands are those of a triangle

pub record HasEnds (f : Field) (t : Tri) (l : Link) : Type 0 where
  pub one : node_band f (first l) ≡ Some (band_at f (first l))
  pub two : node_band f (second l) ≡ Some (band_at f (second l))
  pub low_one : least_band f t ≤ band_at f (first l)
  pub low_two : least_band f t ≤ band_at f (second l)
  pub high_one : band_at f (first l) ≤ greatest_band f t
  pub high_two : band_at f (second l) ≤ greatest_band f t

pub ends_by : (f : Field) (t : Tri) (l : Link) → is_some (f.depth (first l)) ≡ true → is_some (f.depth (second l)) ≡ true
    → least_band f t ≤ band_at f (first l) → least_band f t ≤ band_at f (second l) → band_at f (first l) ≤ greatest_band f t → band_at f (second l) ≤ greatest_band f t → HasEnds f t l
ends_by f t l a b p q r s = record { one = band_known f (first l) a; two = band_known f (second l) b; low_one = p; low_two = q; high_one = r; high_two = s }

-- the three nodes of a surveyed triangle have data
pub all_three : (a b c : Bool) → (a && (b && (c && true))) ≡ true → (a ≡ true) × (b ≡ true) × (c ≡ true)
all_three a b c h =
    let p = and_parts a (b && (c && true)) h in
    let q = and_parts b (c && true) p.1 in
    let r = and_parts c true q.1 in
    (p.0, q.0, r.0)

at_node : ℕ → ℕ → NodeId
at_node i j = record { row = i; col = j }

legs_by : (f : Field) (i k : ℕ) (u : Bool) → surveyed f (tri_of i k u) ≡ true → (j : Way) → HasEnds f (tri_of i k u) (leg (tri_of i k u) j).link
legs_by f i k true h j =
    let t = tri_of i k true in
    let a = all_three (is_some (f.depth (record { row = i; col = k }))) (is_some (f.depth (record { row = i; col = k + 1 }))) (is_some (f.depth (record { row = i + 1; col = k }))) h in
    each_leg t (λ w. HasEnds f t w.link)
    (ends_by f t (leg t Slant).link a.2 a.1 (omega arith) (omega arith) (omega arith) (omega arith))
    (ends_by f t (leg t Across).link a.0 a.1 (omega arith) (omega arith) (omega arith) (omega arith))
    (ends_by f t (leg t Down).link a.0 a.2 (omega arith) (omega arith) (omega arith) (omega arith)) j
legs_by f i k false h j =
    let t = tri_of i k false in
    let a = all_three (is_some (f.depth (record { row = i + 1; col = k }))) (is_some (f.depth (record { row = i; col = k + 1 }))) (is_some (f.depth (record { row = i + 1; col = k + 1 }))) h in
    each_leg t (λ w. HasEnds f t w.link)
    (ends_by f t (leg t Slant).link a.0 a.1 (omega arith) (omega arith) (omega arith) (omega arith))
    (ends_by f t (leg t Across).link a.0 a.2 (omega arith) (omega arith) (omega arith) (omega arith))
    (ends_by f t (leg t Down).link a.1 a.2 (omega arith) (omega arith) (omega arith) (omega arith)) j

pub leg_ends : (f : Field) (t : Tri) → surveyed f t ≡ true → (j : Way) → HasEnds f t (leg t j).link
leg_ends f t h j = legs_by f t.row t.col t.upper h j

-- ---- the parts of a link

pub in_span : (a b x : ℕ) → a ≤ x → x ≤ b → Contains (span a b) x
in_span a b x l h = in_range a (b + 1 - a) x l (omega (arith, l, h))

pub of_span : (a b x : ℕ) → Contains (span a b) x → (a ≤ x) × (x ≤ b)
of_span a b x c = let r = of_range a (b + 1 - a) x c in (r.0, omega (arith, r.0, r.1))

-- every link has a part
pub some_part : (f : Field) (l : Link) → (b : ℕ) × Contains (part_bands f l) b
some_part f l = by (node_band f (first l)) (node_band f (second l)) refl refl
  where
    by : (x y : Option ℕ) → node_band f (first l) ≡ x → node_band f (second l) ≡ y → (b : ℕ) × Contains (part_bands f l) b
    by None y e g = (0, rw e (in_first 0 []))
    by (Some a) None e g = (0, rw (e, g) (in_first 0 []))
    by (Some a) (Some b) e g = (min a b, rw (e, g) (in_span (min a b) (max a b) (min a b) (omega arith) (omega arith)))

-- the parts of a link between two nodes with data
pub part_in : (f : Field) (t : Tri) (l : Link) (b : ℕ) → HasEnds f t l → passes f l b ≡ true → Contains (part_bands f l) b
part_in f t l b h e =
    let x = band_at f (first l) in
    let y = band_at f (second l) in
    let p : (min x y ≤ b) × (b ≤ max x y) = (grind (arith, nat_tests), grind (arith, nat_tests)) in
    rw (h.one, h.two) (in_span (min x y) (max x y) b p.0 p.1)

pub part_of : (f : Field) (t : Tri) (l : Link) (b : ℕ) → HasEnds f t l → Contains (part_bands f l) b → passes f l b ≡ true
part_of f t l b h c =
    let x = band_at f (first l) in
    let y = band_at f (second l) in
    let p : (min x y ≤ b) × (b ≤ max x y) = of_span (min x y) (max x y) b (rw (h.one, h.two) at c) in
    let p0 = p.0 in
    let p1 = p.1 in
    grind (arith, nat_tests)

-- a band that passes a link of a triangle is one of the triangle's
pub passes_within : (f : Field) (t : Tri) (l : Link) (b : ℕ) → HasEnds f t l → passes f l b ≡ true → (least_band f t ≤ b) × (b ≤ greatest_band f t)
passes_within f t l b h e =
    let x = band_at f (first l) in
    let y = band_at f (second l) in
    let p : (min x y ≤ b) × (b ≤ max x y) = (grind (arith, nat_tests), grind (arith, nat_tests)) in
    (omega (arith, p.0, h.low_one, h.low_two), omega (arith, p.1, h.high_one, h.high_two))

-- ---- chords

pub chord_above : (f : Field) (t : Tri) (k : ℕ) → Contains (chord_levels f t) k → (surveyed f t ≡ true) × (1 ≤ k)
chord_above f t k c = by (surveyed f t) refl c
  where
    by : (b : Bool) → surveyed f t ≡ b → Contains (cond b (span (least_band f t + 1) (greatest_band f t)) []) k → (surveyed f t ≡ true) × (1 ≤ k)
    by true e d = let r = of_span (least_band f t + 1) (greatest_band f t) k d in (e, omega (arith, r.0))
    by false e d = absurd (in_nothing k d)

-- ---- the pieces of a triangle

-- the pieces of a triangle have the bands from its first on
pub pieces_are : (f : Field) (t : Tri) → pieces_of f t ≡ map (piece_by t) (range_with_len (first_band f t) (length (pieces_of f t)))
pieces_are f t = by (surveyed f t)
  where
    by : (b : Bool) → map (piece_by t) (cond b (span (least_band f t) (greatest_band f t)) (0 ∷ [])) ≡ map (piece_by t) (range_with_len (cond b (least_band f t) 0) (length (map (piece_by t) (cond b (span (least_band f t) (greatest_band f t)) (0 ∷ [])))))
    by true = ap (λ n. map (piece_by t) (range_with_len (least_band f t) n)) (sym (length-map (span (least_band f t) (greatest_band f t)) (piece_by t) ∙ length-range_with_len (least_band f t) (greatest_band f t + 1 - least_band f t)))
    by false = refl

pub in_pieces : (f : Field) (t : Tri) (b : ℕ) → first_band f t ≤ b → b < first_band f t + length (pieces_of f t) → Contains (pieces_of f t) (piece_by t b)
in_pieces f t b l h = subst (λ ps. Contains ps (piece_by t b)) (sym (pieces_are f t)) (in_map (piece_by t) (range_with_len (first_band f t) (length (pieces_of f t))) b (in_range (first_band f t) (length (pieces_of f t)) b l h))

pub of_pieces : (f : Field) (t : Tri) (p : Piece) → Contains (pieces_of f t) p → (t ≡ p.tri) × (first_band f t ≤ p.band) × (p.band < first_band f t + length (pieces_of f t))
of_pieces f t p c =
    let r = of_map (piece_by t) (range_with_len (first_band f t) (length (pieces_of f t))) p (subst (λ ps. Contains ps p) (pieces_are f t) c) in
    let e : r.0 ≡ p.band = ap (λ (q : Piece). q.band) r.2 in
    let s = of_range (first_band f t) (length (pieces_of f t)) r.0 r.1 in
    (ap (λ (q : Piece). q.tri) r.2, omega (arith, s.0, e), omega (arith, s.1, e))

-- how many pieces there are, and which, of a surveyed triangle and of another
pub count_surveyed : (f : Field) (t : Tri) → surveyed f t ≡ true → (first_band f t ≡ least_band f t) × (length (pieces_of f t) ≡ greatest_band f t + 1 - least_band f t)
count_surveyed f t e =
    let n : length (pieces_of f t) ≡ greatest_band f t + 1 - least_band f t = rw e (length-map (span (least_band f t) (greatest_band f t)) (piece_by t) ∙ length-range_with_len (least_band f t) (greatest_band f t + 1 - least_band f t)) in
    (rw e refl, n)

pub count_unsurveyed : (f : Field) (t : Tri) → surveyed f t ≡ false → (first_band f t ≡ 0) × (length (pieces_of f t) ≡ 1)
count_unsurveyed f t e = (rw e refl, rw e refl)
