-- The rings of one set after another.
use Rattle.std.proofs.Common.{◌≡◌, ℕ, zero, suc, ◌+◌, ◌^◌, ◌<◌, ◌≤◌, false, Some, List, [], ◌∷◌, ◌++◌, map, flat_map, length, get_or, All, IsPermutation, refl, ap, ap₂, sym, subst, ◌∙◌, ⊎_elim, arith}
use Rattle.std.specs.List.{range_with_len}
use Rattle.std.proofs.lemmas.Bool.{cases_eq}
use Rattle.std.proofs.lemmas.List.{get_or-map, get_or_append_left, get_or_push, length-map, length_push, map-append}
use Rattle.std.proofs.lemmas.List.FromFn.{get_or-range_with_len}
use Rattle.boundary_arcs.proofs.Sizes.{two_each}
use Rattle.boundary_arcs.specs.Edges.{AreArcs, HasSidesBelow, arc_of}
use Rattle.boundary_arcs.specs.declared.arc.Arc.{Arc}
use Rattle.boundary_arcs.specs.declared.arc.Side.TheVariants.{Outside, Face}
use Rattle.boundary_arcs.specs.declared.arc.Side.{Side}
use Rattle.mesh_definitions.specs.Rings.{IsRing}
use Rattle.plane_geom.specs.declared.Point.{Point}
use Rattle.ring_builder.proofs.Balance.{even}
use Rattle.ring_builder.proofs.Bordering.{bordering_few, bordering_known, bordering_rise}
use Rattle.ring_builder.proofs.Outlines.{no_arc}
use Rattle.ring_builder.proofs.Places.{parts_once, places_inside}
use Rattle.ring_builder.proofs.Simple.{begin_at, end_at, from_inside, ring_at, to_inside}
use Rattle.ring_builder.specs.Lists.{AreCut, HasParts, part_at}
use Rattle.ring_builder.specs.Parts.{bordering, hop_of, numbers, owner_on, is_set, part_segments, parts_at, parts_of}
use Rattle.ring_builder.specs.Rings.{AreRings, HasRings}
use Rattle.ring_builder.specs.declared.ring.Part.{Part}
use Rattle.ring_builder.specs.declared.ring.Ring.{Ring}
use Rattle.ring_cutter.specs.Rings.{IsBalanced}

-- ---- the parts of one set
pub parts_are : {V : Type 0} (f : V → List Part) (arcs : List Arc) (owner : ℕ → ℕ) (sets : ℕ) (vs us : List V) (i : ℕ) (v : V) (parts : List Part) → HasParts arcs owner sets (length arcs) (map f vs) → us ≡ vs → i < length us → v ≡ get_or us i v → parts ≡ f v → parts ≡ bordering arcs owner i
parts_are f arcs owner sets vs us i v parts h same l e p =
    let w = h.wide in
    let m : i < length vs = omega (arith, l, ap length same) in
    p ∙ ap f (e ∙ ap (λ z. get_or z i v) same) ∙ sym (get_or-map f vs i v [] m) ∙ h.each i (omega (arith, w, length-map vs f, m))

module _ (nodes : List Point) (arcs : List Arc) (faces : ℕ) (s : AreArcs nodes arcs faces) (owner : ℕ → ℕ) (k : ℕ) where
  abbrev parts : List Part
  parts = bordering arcs owner k

  pub few_parts : length parts ≤ 2 ^ 27
  few_parts =
      let two = two_each (λ (a : Arc). length a.points) arcs (λ i d h. (s.simple i d h).long) in
      let few = s.few in
      omega (arith, two, few, bordering_few arcs owner k)

  pub balanced_parts : IsBalanced (map (hop_of arcs) parts) (length nodes)
  balanced_parts =
      let known = bordering_known arcs owner k in
      let rise = bordering_rise arcs owner k in
      let inside : (i : ℕ) → i < length (map (hop_of arcs) parts) → i < length parts = λ i l. omega (arith, l, length-map parts (hop_of arcs)) in
      let part : (i : ℕ) → i < length parts → (part_at parts i).arc < length arcs = λ i l. known i (record { arc = 0; forward = false }) l in
      record {
        begin_inside = λ i l. subst (λ n. n < length nodes) (sym (begin_at nodes arcs faces s parts known rise i (inside i l))) (from_inside nodes arcs faces s (part_at parts i) (part i (inside i l)));
        end_inside = λ i l. subst (λ n. n < length nodes) (sym (end_at nodes arcs faces s parts known rise i (inside i l))) (to_inside nodes arcs faces s (part_at parts i) (part i (inside i l)));
        even = λ p. even owner k p arcs s.balanced faces s.sides;
      }

  pub rings_are : (rings : List Ring) → AreCut arcs parts rings → AreRings arcs owner k rings
  rings_are rings c =
      let known = bordering_known arcs owner k in
      let rise = bordering_rise arcs owner k in
      let each = c.places.each in
      record {
        once = parts_once arcs parts c.cut c.cuts rings each;
        closed = λ i d l.
            let m : i < length c.cut = omega (arith, l, length-map rings (λ (r : Ring). r.parts), ap length each, length-map c.cut (map (part_at parts))) in
            let same : (get_or rings i d).parts ≡ map (part_at parts) (get_or c.cut i []) =
            sym (get_or-map (λ (r : Ring). r.parts) rings i d [] l) ∙ ap (λ z. get_or z i []) each ∙ get_or-map (map (part_at parts)) c.cut i [] [] m in
            subst (λ z. IsRing (flat_map (part_segments arcs) z)) (sym same)
            (ring_at nodes arcs faces s parts known rise (get_or c.cut i []) (places_inside arcs parts c.cut c.cuts i [] m) (c.cuts.closed i [] m));
        exterior = c.places.exterior;
      }

-- ---- one more set
pub one_set_more : {V : Type 0} (f : V → List Ring) (arcs : List Arc) (owner : ℕ → ℕ) (i : ℕ) (vs ws : List V) (v : V) → ws ≡ vs ++ v ∷ [] → HasRings arcs owner i (map f vs) → AreRings arcs owner i (f v) → HasRings arcs owner (i + 1) (map f ws)
one_set_more f arcs owner i vs ws v e h r =
    let seen : map f ws ≡ map f vs ++ f v ∷ [] = ap (map f) e ∙ map-append f vs (v ∷ []) in
    let n = h.each in
    record {
      each = ap length seen ∙ length_push (map f vs) (f v) ∙ ap (λ m. m + 1) n;
      rings = λ k l. subst (λ z. AreRings arcs owner k (get_or z k [])) (sym seen) (⊎_elim
          (λ q. subst (λ j. AreRings arcs owner j (get_or (map f vs ++ f v ∷ []) j [])) (sym q) (subst (AreRings arcs owner i) (sym (get_or_push (map f vs) (f v) [] i n)) r))
          (λ q. let b : k < i = omega (arith, q, l) in subst (AreRings arcs owner k) (sym (get_or_append_left (map f vs) (f v ∷ []) [] k (omega (arith, b, n)))) (h.rings k b))
          (cases_eq k i));
    }

-- ---- owners that are the same for all faces
module _ (arcs : List Arc) (faces : ℕ) (f g : ℕ → ℕ) (same : (x : ℕ) → x < faces → f x ≡ g x) (h : All (HasSidesBelow faces) arcs) where
  same_owner : (s : Side) → ((x : ℕ) → s ≡ Face x → x < faces) → owner_on f s ≡ owner_on g s
  same_owner Outside b = refl
  same_owner (Face x) b = ap Some (same x (b x refl))

  same_parts : (k n : ℕ) → n < length arcs → parts_at f k (arc_of arcs n) n ≡ parts_at g k (arc_of arcs n) n
  same_parts k n l =
      let b = h n no_arc l in
      let a = arc_of arcs n in
      ap₂ (λ right left. parts_of (is_set k right) (is_set k left) n) (same_owner a.right b.right) (same_owner a.left b.left)

  same_range : (k from count : ℕ) → from + count ≤ length arcs → flat_map (λ n. parts_at f k (arc_of arcs n) n) (range_with_len from count) ≡ flat_map (λ n. parts_at g k (arc_of arcs n) n) (range_with_len from count)
  same_range k from zero l = refl
  same_range k from (suc count) l = ap₂ ◌++◌ (same_parts k from (omega arith)) (same_range k (from + 1) count (omega arith))

  pub same_rings : (sets : ℕ) (all : List (List Ring)) → HasRings arcs f sets all → HasRings arcs g sets all
  same_rings sets all r = record {
    each = r.each;
    rings = λ k l. let a = r.rings k l in record {
      once = subst (λ z. IsPermutation z (flat_map (λ (r : Ring). r.parts) (get_or all k []))) (same_range k 0 (length arcs) (omega arith)) a.once;
      closed = a.closed;
      exterior = a.exterior;
    };
  }

pub own_number : (owners : List ℕ) (faces x : ℕ) → owners ≡ range_with_len 0 faces → x < faces → numbers owners x ≡ x
own_number owners faces x e l = ap (λ z. get_or z x 0) e ∙ get_or-range_with_len 0 faces x 0 l ∙ plain x
  where
    plain : (n : ℕ) → 0 + n ≡ n
    plain n = omega arith
