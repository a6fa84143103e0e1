-- What the lists of a mesh have: triangles, pieces and sub-segments.
use Rattle.std.proofs.Common.{◌≡◌, ℕ, Bool, true, false, cond, List, [], ◌∷◌, refl, ap, sym, subst, arith, inl, inr, ⊎_elim}
use Rattle.std.specs.Prelude.{flat_map}
use Rattle.std.specs.List.{range_with_len}
use Rattle.mesh_definitions.specs.Field.{Field}
use Rattle.mesh_definitions.specs.Mesh.{tris, surveyed}
use Rattle.mesh_definitions.specs.Pieces.{pieces_of, span, least_band, greatest_band}
use Rattle.mesh_definitions.specs.declared.Piece.{Piece}
use Rattle.mesh_definitions.specs.declared.Rect.{Rect}
use Rattle.mesh_definitions.specs.declared.Tri.{Tri}
use Rattle.mesh_laws.proofs.Places.{in_range, in_range_low, in_range_high}
use Rattle.mesh_laws.proofs.Triangles.{tri, IsCell}
use Rattle.plane_laws.proofs.Lists.{from_flat_map, from_map, in_flat_map}
use Rattle.plane_laws.proofs.Members.{In, in_map}

-- ---- triangles of a rectangle

abbrev pub halves : ℕ → ℕ → List Tri
halves i j = tri i j true ∷ tri i j false ∷ []

in_half : (i j : ℕ) (u : Bool) → In (halves i j) (tri i j u)
in_half i j true = inl refl
in_half i j false = inr (inl refl)

pub from_halves : (i j : ℕ) (t : Tri) → In (halves i j) t → (t.row ≡ i) × (t.col ≡ j)
from_halves i j t h = ⊎_elim (λ e. of e) (λ k. ⊎_elim (λ e. of e) (λ n. absurd n) k) h
  where
    of : {u : Bool} → tri i j u ≡ t → (t.row ≡ i) × (t.col ≡ j)
    of e = (sym (ap (λ s. s.row) e), sym (ap (λ s. s.col) e))

pub tri_in : (r : Rect) (t : Tri) → IsCell r t.row t.col → In (tris r) t
tri_in r t c =
    let line = λ (i : ℕ). flat_map (halves i) (range_with_len r.col r.cols) in
    in_flat_map line (range_with_len r.row r.rows) t.row t (in_range r.row r.rows t.row c.north c.south)
    (in_flat_map (halves t.row) (range_with_len r.col r.cols) t.col t (in_range r.col r.cols t.col c.west c.east) (in_half t.row t.col t.upper))

pub tri_there : (r : Rect) (t : Tri) → In (tris r) t → IsCell r t.row t.col
tri_there r t h =
    let line = λ (i : ℕ). flat_map (halves i) (range_with_len r.col r.cols) in
    let a = from_flat_map line (range_with_len r.row r.rows) t h in
    let b = from_flat_map (halves a.0) (range_with_len r.col r.cols) t a.2 in
    let e = from_halves a.0 b.0 t b.2 in
    let p = in_range_low r.row r.rows a.0 a.1 in
    let q = in_range_high r.row r.rows a.0 a.1 in
    let u = in_range_low r.col r.cols b.0 b.1 in
    let v = in_range_high r.col r.cols b.0 b.1 in
    let k = e.0 in
    let l = e.1 in
    record { north = omega (arith, p, k); south = omega (arith, q, k); west = omega (arith, u, l); east = omega (arith, v, l) }

-- ---- pieces

-- the bands of a triangle's pieces
abbrev pub bands_of : Field → Tri → List ℕ
bands_of f t = cond (surveyed f t) (span (least_band f t) (greatest_band f t)) (0 ∷ [])

abbrev pub piece : Tri → ℕ → Piece
piece t b = record { tri = t; band = b }

pub piece_in : (f : Field) (r : Rect) (t : Tri) (b : ℕ) → IsCell r t.row t.col → In (bands_of f t) b → In (flat_map (pieces_of f) (tris r)) (piece t b)
piece_in f r t b c i = in_flat_map (pieces_of f) (tris r) t (piece t b) (tri_in r t c) (in_map (piece t) (bands_of f t) b i)

pub piece_there : (f : Field) (r : Rect) (q : Piece) → In (flat_map (pieces_of f) (tris r)) q → IsCell r q.tri.row q.tri.col × In (bands_of f q.tri) q.band
piece_there f r q h =
    let a = from_flat_map (pieces_of f) (tris r) q h in
    let b = from_map (piece a.0) (bands_of f a.0) q a.2 in
    let e : a.0 ≡ q.tri = ap (λ x. x.tri) b.2 in
    let g : b.0 ≡ q.band = ap (λ x. x.band) b.2 in
    (subst (λ t. IsCell r t.row t.col) e (tri_there r a.0 a.1), subst (λ n. In (bands_of f q.tri) n) g (subst (λ t. In (bands_of f t) b.0) e b.1))
