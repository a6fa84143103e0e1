-- Where the steps round a piece lie, and points on no line of the mesh.
use Rattle.std.proofs.Common.{◌≡◌, ◌⊎◌, inl, inr, ℕ, ◌+◌, ◌-◌, ◌<◌, ◌≤◌, Bool, true, false, cond, not, ◌&&◌, eqb, Some, [], map, refl, sym, ap, subst, ◌∙◌, arith}
use Rattle.std.proofs.lemmas.Bool.Decides.{nat_tests}
use Rattle.mesh_definitions.specs.Faces.{OnLine, drawn, is_drawn, same_class}
use Rattle.mesh_definitions.specs.Field.{Field, IsField}
use Rattle.mesh_definitions.specs.Mesh.{all_cells, right_tri, surveyed}
use Rattle.mesh_definitions.specs.Pieces.{whole_mesh, walked, part_ends, part_bands, piece_at, chord_ends, chord_levels, least_band, greatest_band, span}
use Rattle.mesh_definitions.specs.declared.Class.TheVariants.{Unsurveyed, Band}
use Rattle.mesh_definitions.specs.declared.Link.{Link}
use Rattle.mesh_definitions.specs.declared.Piece.{Piece}
use Rattle.mesh_definitions.specs.declared.Step.{Step}
use Rattle.mesh_definitions.specs.declared.Sub.TheVariants.{Part, Chord}
use Rattle.mesh_definitions.specs.declared.Sub.{Sub}
use Rattle.mesh_definitions.specs.declared.Tri.{Tri}
use Rattle.mesh_laws.proofs.Listed.{piece, tri_in}
use Rattle.mesh_laws.proofs.Once.{chord_there, mapped, part_there, right_is}
use Rattle.mesh_laws.proofs.Places.{in_range, in_range_low, in_range_high}
use Rattle.mesh_laws.proofs.Subs.{in_chords}
use Rattle.mesh_laws.proofs.Triangles.{IsCell}
use Rattle.plane_geom.specs.Geom.{IsOn}
use Rattle.plane_geom.specs.Segments.{turned}
use Rattle.plane_geom.specs.declared.Point.{Point}
use Rattle.plane_geom.specs.declared.Seg.{Seg}
use Rattle.plane_laws.proofs.Lists.{in_filter}
use Rattle.plane_laws.proofs.Members.{In, contains, in_map}
use Rattle.mesh_ground_laws.proofs.Banded.{EndsIn, IsLevel, chord_in, part_in, turned_in}

module _ (f : Field) (h : IsField f) (block : ℕ → ℕ → ℕ) where
  -- a cell of the field
  pub cell_row : (i j : ℕ) → IsCell (all_cells f) i j → i + 1 < f.rows
  cell_row i j c = let s = c.south in omega (arith, s)

  pub cell_col : (i j : ℕ) → IsCell (all_cells f) i j → j + 1 < f.cols
  cell_col i j c = let e = c.east in omega (arith, e)

  -- ---- steps

  abbrev StepIn : Step → Piece → Type 0
  StepIn s q = (a : q.tri.row + 1 < f.rows) (b : q.tri.col + 1 < f.cols) → surveyed f q.tri ≡ true → EndsIn f h q.tri a b q.band (walked (whole_mesh f block) s)

  way_in : (t : Tri) (a : t.row + 1 < f.rows) (b : t.col + 1 < f.cols) (n : ℕ) (s : Seg) (forward : Bool) → EndsIn f h t a b n s → EndsIn f h t a b n (cond forward s (turned s))
  way_in t a b n s true e = e
  way_in t a b n s false e = turned_in f h t a b n s e

  part_step : (l : Link) (k : ℕ) (forward : Bool) (q : Piece) → In (part_bands f l) k → (whole_mesh f block).right_of (record { sub = Part l k; forward = forward }) ≡ Some q → StepIn (record { sub = Part l k; forward = forward }) q
  part_step l k forward q i e =
      let x = mapped (piece_at f k) (right_tri (all_cells f) (record { link = l; forward = forward })) q e in
      let t = x.0 in
      let c = right_is (all_cells f) l.way l.row l.col forward t x.1 in
      subst (StepIn (record { sub = Part l k; forward = forward })) x.2
      (λ a b known. subst (λ n. EndsIn f h t a b n (cond forward (part_ends f l k) (turned (part_ends f l k)))) (sym (ap (λ x. cond x k 0) known))
      (way_in t a b k (part_ends f l k) forward (part_in f h t a b l c.first c.second known k i)))

  pub levels_known : (t : Tri) (a : t.row + 1 < f.rows) (b : t.col + 1 < f.cols) (k : ℕ) → surveyed f t ≡ true → In (chord_levels f t) k → IsLevel f h t a b k
  levels_known t a b k known i =
      let j : In (span (least_band f t + 1) (greatest_band f t)) k = subst (λ x. In (cond x (span (least_band f t + 1) (greatest_band f t)) []) k) known i in
      let low = in_range_low (least_band f t + 1) (greatest_band f t + 1 - (least_band f t + 1)) k j in
      let high = in_range_high (least_band f t + 1) (greatest_band f t + 1 - (least_band f t + 1)) k j in
      record { above = omega (arith, low); most = omega (arith, low, high) }

  chord_step : (t : Tri) (k : ℕ) (forward : Bool) (q : Piece) → In (chord_levels f t) k → (whole_mesh f block).right_of (record { sub = Chord t k; forward = forward }) ≡ Some q → StepIn (record { sub = Chord t k; forward = forward }) q
  chord_step t k forward q i e =
      let g : piece t (cond forward k (k - 1)) ≡ q = cc (e) in
      subst (StepIn (record { sub = Chord t k; forward = forward })) g
      (λ a b known.
      let level = levels_known t a b k known i in
      let above = level.above in
      way_in t a b (cond forward k (k - 1)) (chord_ends f t k) forward (chord_in f h t a b k (cond forward k (k - 1)) level (which forward (omega (arith, above)))))
    where
      which : (x : Bool) → 1 ≤ k → (cond x k (k - 1) ≡ k) ⊎ (cond x k (k - 1) + 1 ≡ k)
      which true l = inl refl
      which false l = inr (omega (arith, l))

  -- both ends of a step are of the band of the piece on its right
  pub step_in : (u : Sub) (forward : Bool) (q : Piece) → In (whole_mesh f block).subs u → (whole_mesh f block).right_of (record { sub = u; forward = forward }) ≡ Some q → StepIn (record { sub = u; forward = forward }) q
  step_in (Part l k) forward q i e = part_step l k forward q (part_there f (all_cells f) l k i) e
  step_in (Chord t k) forward q i e = chord_step t k forward q (chord_there f (all_cells f) t k i).1 e

  -- ---- lines

  module _ (p : Point) where
    -- a point of a drawn sub-segment is on a line
    pub on_drawn : (u : Sub) → In (whole_mesh f block).subs u → is_drawn (whole_mesh f block) u ≡ true → IsOn ((whole_mesh f block).ends u) p → OnLine (whole_mesh f block) p
    on_drawn u i e on =
        let m = whole_mesh f block in
        record { segment = m.ends u; there = contains (map m.ends (drawn m)) (m.ends u) (in_map m.ends (drawn m) u (in_filter (is_drawn m) m.subs u i e)); on = on }

    other_level : (k : ℕ) → 1 ≤ k → eqb k (k - 1) ≡ false
    other_level k l = grind (arith, nat_tests, l)

    chord_drawn : (t : Tri) (k : ℕ) → surveyed f t ≡ true → 1 ≤ k → is_drawn (whole_mesh f block) (Chord t k) ≡ true
    chord_drawn t k known l =
        ap (λ x. not (same_class (cond x (Band k) Unsurveyed) (cond x (Band (k - 1)) Unsurveyed) && eqb (block t.row t.col) (block t.row t.col))) known
        ∙ ap (λ x. not (x && eqb (block t.row t.col) (block t.row t.col))) (other_level k l)

    -- a point on no line is on no chord
    pub off_chords : ¬ (OnLine (whole_mesh f block) p) → (t : Tri) (c : IsCell (all_cells f) t.row t.col) → surveyed f t ≡ true → (a : t.row + 1 < f.rows) (b : t.col + 1 < f.cols) (k : ℕ) → IsLevel f h t a b k → ¬ (IsOn (chord_ends f t k) p)
    off_chords off t c known a b k level on =
        let above = level.above in
        let most = level.most in
        let i : In (span (least_band f t + 1) (greatest_band f t)) k = in_range (least_band f t + 1) (greatest_band f t + 1 - (least_band f t + 1)) k (omega (arith, above)) (omega (arith, above, most)) in
        off (on_drawn (Chord t k) (in_chords f (all_cells f) block t k (tri_in (all_cells f) t c) (subst (λ x. In (cond x (span (least_band f t + 1) (greatest_band f t)) []) k) (sym known) i)) (chord_drawn t k known (omega (arith, above))) on)
