-- The triangles on the two sides of a link give a point of it, which is on no line, one class.
use Rattle.std.proofs.Common.{◌≡◌, ℕ, ◌+◌, ◌-◌, Bool, true, false, true≢false, cond, not, ◌&&◌, eqb, Some, [], ◌∷◌, map, refl, sym, ap, ap₂, subst, ◌∙◌, arith}
use Rattle.std.specs.Prelude.{option_map}
use Rattle.mesh_definitions.specs.Faces.{OnLine, borders, is_drawn, same_class, same_kind}
use Rattle.mesh_definitions.specs.Field.{Field, IsField, point}
use Rattle.mesh_definitions.specs.Ground.{Gives, IsInTri, deep_chords}
use Rattle.mesh_definitions.specs.Ground.Gives.{Open, Deep}
use Rattle.mesh_definitions.specs.Mesh.{all_cells, first, second, links, right_tri, surveyed}
use Rattle.mesh_definitions.specs.Pieces.{whole_mesh, ahead, back, part_ends, part_bands, piece_at, least_band, greatest_band, span}
use Rattle.mesh_definitions.specs.declared.Class.TheVariants.{Unsurveyed, Band}
use Rattle.mesh_definitions.specs.declared.Class.{Class}
use Rattle.mesh_definitions.specs.declared.Link.{Link}
use Rattle.mesh_definitions.specs.declared.Step.{Step}
use Rattle.mesh_definitions.specs.declared.Sub.TheVariants.{Part}
use Rattle.mesh_definitions.specs.declared.Sub.{Sub}
use Rattle.mesh_definitions.specs.declared.Tri.{Tri}
use Rattle.mesh_counts_laws.proofs.Inside.{link_leg}
use Rattle.mesh_laws.proofs.Listed.{piece_there}
use Rattle.mesh_laws.proofs.Once.{pieces_once, right_is}
use Rattle.mesh_laws.proofs.Places.{in_range_low, in_range_high}
use Rattle.mesh_laws.proofs.Subs.{in_parts}
use Rattle.plane_geom.specs.Geom.{IsOn}
use Rattle.plane_geom.specs.declared.Point.{Point}
use Rattle.plane_laws.specs.Borders.{steps}
use Rattle.plane_laws.specs.Outlines.{seg}
use Rattle.plane_laws.proofs.Members.{In, contains, is_in, in_map, in_left, in_right}
use Rattle.mesh_ground_laws.proofs.Banded.{between_in, gives, part_in}
use Rattle.mesh_ground_laws.proofs.Drawn.{cell_col, cell_row, off_chords, on_drawn}
use Rattle.mesh_ground_laws.proofs.OnParts.{OnPart, on_part}

-- the class that a triangle gives to a point, if it gives one
abbrev pub class_by : Field → Tri → Point → Class
class_by f t p = cond (surveyed f t) (Band (least_band f t + deep_chords f t p)) Unsurveyed

pub gives_is : (f : Field) (t : Tri) (p : Point) (K : Class) → Gives f t p K → K ≡ class_by f t p
gives_is f t p K (Open bare) = sym (ap (λ x. cond x (Band (least_band f t + deep_chords f t p)) Unsurveyed) bare)
gives_is f t p K (Deep known off) = sym (ap (λ x. cond x (Band (least_band f t + deep_chords f t p)) Unsurveyed) known)

-- the class of the piece at a part of a band, by whether its triangle is surveyed
abbrev kind_of : Bool → ℕ → Class
kind_of x b = cond x (Band (cond x b 0)) Unsurveyed

module _ (f : Field) (h : IsField f) (block : ℕ → ℕ → ℕ) where
  step_there : (u : Sub) (forward : Bool) → In (whole_mesh f block).subs u → In (steps (borders (whole_mesh f block))) (record { sub = u; forward = forward })
  step_there u true i = let m = whole_mesh f block in in_left (map ahead m.subs) (map back (map ahead m.subs)) (ahead u) (in_map ahead m.subs u i)
  step_there u false i = let m = whole_mesh f block in in_right (map ahead m.subs) (map back (map ahead m.subs)) (back (ahead u)) (in_map back (map ahead m.subs) (ahead u) (in_map ahead m.subs u i))

  module _ (p : Point) (off : ¬ (OnLine (whole_mesh f block) p)) (l : Link) (there : In (links (all_cells f)) l) where
    -- a surveyed triangle gives a point of a leg's part the part's band
    band_on : (t : Tri) (forward : Bool) → right_tri (all_cells f) (record { link = l; forward = forward }) ≡ Some t → surveyed f t ≡ true → IsInTri f t p → (b : ℕ) → In (part_bands f l) b → IsOn (part_ends f l b) p → class_by f t p ≡ Band b
    band_on t forward e known has b i on =
        let m = whole_mesh f block in
        let s : Step = record { sub = Part l b; forward = forward } in
        let c = right_is (all_cells f) l.way l.row l.col forward t e in
        let x = cell_row f h block t.row t.col c.cell in
        let y = cell_col f h block t.row t.col c.cell in
        let listed = contains (steps (borders m)) s (step_there (Part l b) forward (in_parts f (all_cells f) block l b there i)) in
        let right : m.right_of s ≡ Some (piece_at f b t) = ap (option_map (piece_at f b)) e in
        let q = (pieces_once f (all_cells f) block).sides s (piece_at f b t) listed right in
        let j = (piece_there f (all_cells f) (piece_at f b t) (is_in m.pieces (piece_at f b t) q)).1 in
        let k : In (span (least_band f t) (greatest_band f t)) b = subst (λ x. In (cond x (span (least_band f t) (greatest_band f t)) (0 ∷ [])) (cond x b 0)) known j in
        let low = in_range_low (least_band f t) (greatest_band f t + 1 - least_band f t) b k in
        let high = in_range_high (least_band f t) (greatest_band f t + 1 - least_band f t) b k in
        let band = between_in f h t x y b (part_ends f l b) p (part_in f h t x y l c.first c.second known b i) on in
        sym (gives_is f t p (Band b) (gives f h t x y b p band has (off_chords f h block p off t c.cell known x y) known low (omega (arith, low, high))))

    -- a link that has a point on no line has two triangles of one kind on its sides
    pub link_agrees : IsOn (seg (point f (first l)) (point f (second l))) p → (t u : Tri) → right_tri (all_cells f) (record { link = l; forward = true }) ≡ Some t → right_tri (all_cells f) (record { link = l; forward = false }) ≡ Some u → IsInTri f t p → IsInTri f u p → class_by f t p ≡ class_by f u p
    link_agrees on t u et eu in_t in_u = by_drawn (is_drawn (whole_mesh f block) (Part l part.band)) refl
      where
        part : OnPart f h p l (link_leg f h l (contains (links (all_cells f)) l there)) on
        part = on_part f h p l (link_leg f h l (contains (links (all_cells f)) l there)) on

        bare : (t : Tri) → surveyed f t ≡ false → class_by f t p ≡ Unsurveyed
        bare t e = ap (λ x. cond x (Band (least_band f t + deep_chords f t p)) Unsurveyed) e

        by_survey : (b : ℕ) (z : Bool) → In (part_bands f l) b → IsOn (part_ends f l b) p → (x y : Bool) → surveyed f t ≡ x → surveyed f u ≡ y → not (same_class (kind_of x b) (kind_of y b) && z) ≡ false → class_by f t p ≡ class_by f u p
        by_survey b z i lies true true e k s = band_on t true et e in_t b i lies ∙ sym (band_on u false eu k in_u b i lies)
        by_survey b z i lies false false e k s = bare t e ∙ sym (bare u k)
        by_survey b z i lies true false e k s = absurd (true≢false s)
        by_survey b z i lies false true e k s = absurd (true≢false s)

        by_drawn : (d : Bool) → is_drawn (whole_mesh f block) (Part l part.band) ≡ d → class_by f t p ≡ class_by f u p
        by_drawn true d = absurd (off (on_drawn f h block p (Part l part.band) (in_parts f (all_cells f) block l part.band there part.there) d part.lies))
        by_drawn false d =
            let m = whole_mesh f block in
            let b = part.band in
            let e : not (same_kind m (Some (piece_at f b t)) (Some (piece_at f b u))) ≡ false = sym (ap₂ (λ x y. not (same_kind m (option_map (piece_at f b) x) (option_map (piece_at f b) y))) et eu) ∙ d in
            by_survey b (eqb (block t.row t.col) (block u.row u.col)) part.there part.lies (surveyed f t) (surveyed f u) refl refl e
