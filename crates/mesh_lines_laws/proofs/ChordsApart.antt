-- The chords of two levels in one triangle share no point: that of the deeper level lies strictly on the deep side of the other.
use Rattle.std.proofs.Common.{◌≡◌, ⊎_elim, ℕ, ◌+◌, ◌-◌, ◌<◌, ◌≤◌, ℤ, pos, ◌-ℤ◌, ◌≤ℤ◌, ◌<ℤ◌, sym, subst, arith}
use Rattle.std.specs.Prelude.{int_div}
use Rattle.std.proofs.lemmas.Bool.{cases_lt, cases_order}
use Rattle.std.proofs.lemmas.Int.{ints, by_lt_z}
use Rattle.mesh_definitions.specs.Cuts.{crossing, lattice_steps, slot_of}
use Rattle.mesh_definitions.specs.Field.{Field, IsField, point, band_at}
use Rattle.mesh_definitions.specs.Mesh.{all_cells, corners, tris}
use Rattle.mesh_definitions.specs.Pieces.{chord_ends, chord_levels, least_band, greatest_band}
use Rattle.mesh_definitions.specs.declared.Tri.{Tri}
use Rattle.depth_grid.specs.declared.node.NodeId.{NodeId}
use Rattle.mesh_laws.proofs.Listed.{tri_there}
use Rattle.plane_geom.specs.Geom.{cross_of, IsOn}
use Rattle.plane_geom.specs.declared.Point.{Point}
use Rattle.plane_geom.specs.declared.Seg.{Seg}
use Rattle.plane_laws.specs.Outlines.{Vector, at}
use Rattle.plane_laws.proofs.Algebra.{mul_nonneg, mul_pos}
use Rattle.plane_laws.proofs.Chords.{side_on_first_leg, side_on_second_leg}
use Rattle.plane_laws.proofs.Lines.{side_back, side_changes_evenly, side_round}
use Rattle.plane_laws.proofs.Members.{In, contains, is_in}
use Rattle.plane_laws.proofs.Pieces.{leg_from_other_end}
use Rattle.tri_mesh.specs.Fields.{upwards}
use Rattle.tri_mesh.specs.Sides.{IsParted}
use Rattle.tri_mesh.proofs.Chording.{crossing_inside}
use Rattle.tri_mesh.proofs.Deep.{parted}
use Rattle.tri_mesh.proofs.Steps.{InField, crossing_cut}
use Rattle.mesh_lines_laws.specs.Chords.{ChordsApart, ChordsNest}
use Rattle.mesh_lines_laws.proofs.Apart.{level_between}
use Rattle.mesh_lines_laws.proofs.ChordCorners.{ChordOf, chord_of, corner_in, cut_right, meets}
use Rattle.mesh_lines_laws.proofs.ChordCorners.ChordOf.{OneDeep, OneShoal}
use Rattle.mesh_lines_laws.proofs.Segments.{right_on, times_none}
use Rattle.mesh_lines_laws.proofs.Spots.{further}

-- equal steps that lead from strictly left of a line onto it lead on to its right
beyond_line : (a b w : Point) (e : Vector) (s r : ℤ) → pos 0 <ℤ cross_of a b w → cross_of a b (at w e s) ≡ pos 0 → pos 0 ≤ℤ s → s <ℤ r → cross_of a b (at w e r) <ℤ pos 0
beyond_line a b w e s r left on low more =
    let g = side_changes_evenly a b w e s r in
    let none = times_none r (cross_of a b (at w e s)) on in
    let x = mul_pos (r -ℤ s) (cross_of a b w) (omega (arith, ints, more)) left in
    by_lt_z (cross_of a b (at w e r)) (pos 0)
    (λ l. l)
    (λ l. absurd (let y = mul_nonneg s (cross_of a b (at w e r)) low l in omega (arith, ints, g, none, x, y)))

module _ (f : Field) (h : IsField f) (t : Tri) (in_rows : t.row + 1 < f.rows) (in_cols : t.col + 1 < f.cols) (k j : ℕ) (above : least_band f t < k) (less : k < j) (most : j ≤ greatest_band f t) where
  abbrev c : Point
  c = (chord_ends f t k).a

  abbrev d : Point
  d = (chord_ends f t k).b

  -- strictly on the deep side of the shoaler level's chord
  abbrev Right : Point → Type 0
  Right z = cross_of c d z <ℤ pos 0

  sides : (n : NodeId) → In (corners t) n → IsParted f k c d n
  sides n i = parted side_back side_round side_on_first_leg side_on_second_leg leg_from_other_end f h k t.row t.col in_rows in_cols t.upper n above (omega (arith, less, most)) (contains (corners t) n i)

  -- the deeper level crosses a leg, from its shoaler corner u to the other
  module _ (u v : NodeId) (iu : In (corners t) u) (iv : In (corners t) v) (low : band_at f u < j) (high : j ≤ band_at f v) where
    in_u : InField f h u
    in_u = corner_in f h t in_rows in_cols u iu

    in_v : InField f h v
    in_v = corner_in f h t in_rows in_cols v iv

    -- both corners lie on the deep side
    both_deep : k ≤ band_at f u → Right (crossing f (upwards u v) j)
    both_deep l =
        let p = (sides u iu).0 l in
        let q = (sides v iv).0 (omega (arith, less, high)) in
        cut_right c d (point f u) (point f v) (crossing f (upwards u v) j) (crossing_cut f h u v j in_u in_v low high) (omega (arith, ints, p)) (omega (arith, ints, q)) (omega (arith, ints, p, q))

    -- the leg comes to the chord first, and to the deeper level after it
    past_chord : band_at f u < k → Right (crossing f (upwards u v) j)
    past_chord l =
        let m : k ≤ band_at f v = omega (arith, less, high) in
        let s = upwards u v in
        let e : Vector = record { x = int_div ((point f v).x -ℤ (point f u).x) (pos (lattice_steps f s)); y = int_div ((point f v).y -ℤ (point f u).y) (pos (lattice_steps f s)) } in
        let near : crossing f s k ≡ at (point f u) e (pos (slot_of f s (k - band_at f u))) = crossing_inside f u v k l m in
        let far : crossing f s j ≡ at (point f u) e (pos (slot_of f s (j - band_at f u))) = crossing_inside f u v j low high in
        let on = meets f h k t (chord_of f h t k in_rows in_cols above (omega (arith, less, most))) u v iu iv l m in
        let more = further f h u v in_u in_v k j l less high in
        subst Right (sym far)
        (beyond_line c d (point f u) e (pos (slot_of f s (k - band_at f u))) (pos (slot_of f s (j - band_at f u)))
        ((sides u iu).1 l)
        (subst (λ z. cross_of c d z ≡ pos 0) near on)
        (omega (arith, ints))
        (omega (arith, ints, more)))

    leg_right : Right (crossing f (upwards u v) j)
    leg_right = ⊎_elim past_chord both_deep (cases_lt (band_at f u) k)

  abbrev BothRight : Seg → Type 0
  BothRight s = Right s.a × Right s.b

  -- the deeper level's chord lies strictly on the deep side
  deeper_right : BothRight (chord_ends f t j)
  deeper_right = by (chord_of f h t j in_rows in_cols (omega (arith, above, less)) most)
    where
      by : ChordOf f h j t → BothRight (chord_ends f t j)
      by (OneDeep p q r ring dp sq sr e) = subst BothRight (sym e) (leg_right q p ring.corner_q ring.corner_p sq dp, leg_right r p ring.corner_r ring.corner_p sr dp)
      by (OneShoal p q r ring sp dq dr e) = subst BothRight (sym e) (leg_right p r ring.corner_p ring.corner_r sp dr, leg_right p q ring.corner_p ring.corner_q sp dq)

  all_right : (p : Point) → IsOn (chord_ends f t j) p → Right p
  all_right p on = right_on c d (chord_ends f t j) p on deeper_right.0 deeper_right.1

pub chords_nest : ChordsNest
chords_nest f t k j p h there there_k there_j less on =
    let cell = tri_there (all_cells f) t (is_in (tris (all_cells f)) t there) in
    let south = cell.south in
    let east = cell.east in
    let x = level_between f t k (is_in (chord_levels f t) k there_k) in
    let y = level_between f t j (is_in (chord_levels f t) j there_j) in
    all_right f h t (omega (arith, south)) (omega (arith, east)) k j x.0 less y.1 p on

pub chords_apart : ChordsNest → ChordsApart
chords_apart nest f t k j p h there there_k there_j other on_k on_j = ⊎_elim
    other
    (λ apart. ⊎_elim
    (λ less. let l = nest f t k j p h there there_k there_j less on_j in let e = on_k.line in omega (arith, ints, l, e))
    (λ less. let l = nest f t j k p h there there_j there_k less on_k in let e = on_j.line in omega (arith, ints, l, e))
    apart)
    (cases_order k j)
