-- What is drawn of a field are the lines of its mesh.
use Rattle.std.proofs.Common.{◌≡◌, ℕ, ◌+◌, ◌-◌, ◌≤◌, Bool, true, false, cond, not, ◌&&◌, eqb, List, [], map, sym, ap, subst, ◌∙◌, arith}
use Rattle.std.specs.Prelude.{flat_map}
use Rattle.std.proofs.lemmas.Bool.Decides.{nat_tests}
use Rattle.mesh_definitions.specs.Faces.{OnLine, drawn, is_drawn, same_class}
use Rattle.mesh_definitions.specs.Field.{Field, IsField}
use Rattle.mesh_definitions.specs.Ground.{chords}
use Rattle.mesh_definitions.specs.Mesh.{all_cells, links, surveyed, tris}
use Rattle.mesh_definitions.specs.Pieces.{Mesh, whole_mesh, part_bands, chord_ends, chord_levels, least_band, greatest_band, span}
use Rattle.mesh_definitions.specs.declared.Class.TheVariants.{Unsurveyed, Band}
use Rattle.mesh_definitions.specs.declared.Sub.TheVariants.{Part, Chord}
use Rattle.mesh_definitions.specs.declared.Sub.{Sub}
use Rattle.mesh_definitions.specs.declared.Tri.{Tri}
use Rattle.mesh_laws.proofs.Listed.{tri_in}
use Rattle.mesh_laws.proofs.Once.{chord_there}
use Rattle.mesh_laws.proofs.Places.{in_range_low}
use Rattle.mesh_laws.proofs.Subs.{in_chords, in_parts, link_there}
use Rattle.plane_geom.specs.Geom.{IsOn}
use Rattle.plane_geom.specs.declared.Point.{Point}
use Rattle.plane_laws.proofs.Lists.{from_map, from_filter, in_filter}
use Rattle.plane_laws.proofs.Members.{In, contains, is_in, in_map}
use Rattle.tri_mesh.specs.Lines.{OnDrawn}
use Rattle.tri_mesh.specs.Lines.OnDrawn.{OnLink, OnChord}
use Rattle.mesh_counts_laws.proofs.Inside.{link_leg}
use Rattle.point_laws.specs.Lines.{DrawnAreLines}
use Rattle.point_laws.proofs.Sides.{part_drawn}
use Rattle.mesh_ground_laws.proofs.OnParts.{on_part}
use Rattle.point_laws.proofs.Parts.{part_on}

other_level : (k : ℕ) → 1 ≤ k → eqb k (k - 1) ≡ false
other_level k l = grind (arith, nat_tests, l)

module _ (f : Field) (h : IsField f) (block : ℕ → ℕ → ℕ) (p : Point) where
  abbrev m : Mesh
  m = whole_mesh f block

  abbrev parts : List Sub
  parts = flat_map (λ l. map (Part l) (part_bands f l)) (links (all_cells f))

  abbrev chorded : List Sub
  chorded = flat_map (λ t. map (Chord t) (chord_levels f t)) (tris (all_cells f))

  -- a point of a drawn sub-segment is on a line
  on_drawn : (u : Sub) → In m.subs u → is_drawn m u ≡ true → IsOn (m.ends u) p → OnLine m p
  on_drawn u i e on = record { segment = m.ends u; there = contains (map m.ends (drawn m)) (m.ends u) (in_map m.ends (drawn m) u (in_filter (is_drawn m) m.subs u i e)); on = on }

  -- a chord is drawn
  chord_drawn : (t : Tri) (k : ℕ) → In (chord_levels f t) k → is_drawn m (Chord t k) ≡ true
  chord_drawn t k i = by (surveyed f t) i
    where
      by : (s : Bool) → In (cond s (span (least_band f t + 1) (greatest_band f t)) []) k →
          not (same_class (cond s (Band k) Unsurveyed) (cond s (Band (k - 1)) Unsurveyed) && eqb (block t.row t.col) (block t.row t.col)) ≡ true
      by true j =
          let low = in_range_low (least_band f t + 1) (greatest_band f t + 1 - (least_band f t + 1)) k j in
          ap (λ x. not (x && eqb (block t.row t.col) (block t.row t.col))) (other_level k (omega (arith, low)))
      by false j = absurd j

  -- what is drawn lies on lines
  to_line : OnDrawn f block p → OnLine m p
  to_line (OnLink l there d) =
      let part = on_part f h p l (link_leg f h l there) d.on in
      let sub = in_parts f (all_cells f) block l part.band (is_in (links (all_cells f)) l there) part.there in
      on_drawn (Part l part.band) sub (part_drawn f block l part.band ∙ d.drawn) part.lies
  to_line (OnChord t there on) =
      let x = from_map (chord_ends f t) (chord_levels f t) on.segment (is_in (chords f t) on.segment on.there) in
      let sub = in_chords f (all_cells f) block t x.0 (is_in (tris (all_cells f)) t there) x.1 in
      on_drawn (Chord t x.0) sub (chord_drawn t x.0 x.1) (subst (λ s. IsOn s p) (sym x.2) on.on)

  -- a drawn sub-segment lies on a drawn link or is a chord
  of_sub : (u : Sub) → In m.subs u → is_drawn m u ≡ true → IsOn (m.ends u) p → OnDrawn f block p
  of_sub (Part l k) i d on =
      let there = contains (links (all_cells f)) l (link_there f (all_cells f) block l k i) in
      OnLink l there (record { drawn = sym (part_drawn f block l k) ∙ d; on = part_on f h l (link_leg f h l there) p k on })
  of_sub (Chord t k) i d on =
      let c = chord_there f (all_cells f) t k i in
      let there = contains (chords f t) (chord_ends f t k) (in_map (chord_ends f t) (chord_levels f t) k c.1) in
      OnChord t (contains (tris (all_cells f)) t (tri_in (all_cells f) t c.0)) (record { segment = chord_ends f t k; there = there; on = on })

  from_line : OnLine m p → OnDrawn f block p
  from_line on =
      let x = from_map m.ends (drawn m) on.segment (is_in (map m.ends (drawn m)) on.segment on.there) in
      let c = from_filter (is_drawn m) m.subs x.0 x.1 in
      of_sub x.0 c.0 c.1 (subst (λ s. IsOn s p) (sym x.2) on.on)

pub drawn_are_lines : DrawnAreLines
drawn_are_lines f block h p = (to_line f h block p, from_line f h block p)
