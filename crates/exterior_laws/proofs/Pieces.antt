-- Each piece has a positive area sum, so each set of pieces has, and one at least of the rings round a set is exterior.
use Rattle.std.proofs.Common.{◌≡◌, ◌≢◌, ℕ, ℤ, pos, ◌-ℤ◌, ◌≤ℤ◌, ◌<ℤ◌, Bool, true, false, cond, not, ◌&&◌, Option, Some, None, IsTrue, List, map, flat_map, Contains, refl, sym, ap, subst, ◌∙◌, arith}
use Rattle.std.specs.List.{Any}
use Rattle.std.specs.Prelude.{option_map}
use Rattle.std.proofs.lemmas.Int.{ints}
use Rattle.std.proofs.lemmas.List.Elements.{All-contains}
use Rattle.mesh_definitions.specs.Faces.{borders, boundary, steps_of}
use Rattle.mesh_definitions.specs.Field.{Field, IsField}
use Rattle.mesh_definitions.specs.Laws.{AreaOverPieces, SamePiece, WalksBothWays}
use Rattle.mesh_definitions.specs.Mesh.{Walk, all_cells, right_tri}
use Rattle.mesh_definitions.specs.Pieces.{Mesh, ahead, back, left_of, piece_at, same_piece, walked, whole_mesh}
use Rattle.mesh_definitions.specs.Rings.{area_sum, is_exterior}
use Rattle.mesh_definitions.specs.declared.Piece.{Piece}
use Rattle.mesh_definitions.specs.declared.Step.{Step}
use Rattle.mesh_definitions.specs.declared.Sub.TheVariants.{Part}
use Rattle.mesh_definitions.specs.declared.Sub.{Sub as SubSegment}
use Rattle.mesh_definitions.specs.declared.Tri.{Tri}
use Rattle.exterior_laws.specs.Exterior.{PiecesHaveArea, SetsHaveArea, SomeRingIsExterior}
use Rattle.exterior_laws.proofs.Fans.{area_in_slices, share, slice}
use Rattle.exterior_laws.proofs.Runs.{RunsWith, part_runs, run, turn_alike}
use Rattle.exterior_laws.proofs.Sides.{one_side}
use Rattle.exterior_laws.proofs.Totals.{positive_member, total_positive}
use Rattle.exterior_laws.proofs.TwoLegs.{HasPart, HasTwoLegs, piece_legs, side}
use Rattle.mesh_ground_laws.specs.ClosedPieces.{PiecesAreConvex}
use Rattle.mesh_laws.specs.PieceLaws.{PiecesOnce}
use Rattle.mesh_laws.proofs.Places.{total-flat_map}
use Rattle.mesh_laws.proofs.Subs.{in_parts}
use Rattle.mesh_lines_laws.specs.MeshLines.{FieldsKeepLines}
use Rattle.plane_geom.specs.Geom.{cross_of}
use Rattle.plane_geom.specs.Segments.{turned}
use Rattle.plane_geom.specs.declared.Point.{Point}
use Rattle.plane_geom.specs.declared.Seg.{Seg}
use Rattle.plane_laws.specs.Borders.{steps, total, within}
use Rattle.plane_laws.specs.Outlines.{turning}
use Rattle.plane_laws.specs.SumLaws.{BoundarySum}
use Rattle.plane_laws.proofs.Algebra.{ring, V, Sub, Mul}
use Rattle.plane_laws.proofs.Lines.{cross_of_poly}
use Rattle.plane_laws.proofs.Lists.{in_filter}
use Rattle.plane_laws.proofs.Members.{In, contains, in_left, in_map, in_right, is_in}
use Rattle.plane_laws.proofs.Sums.{total-IsPermutation}

-- a step of a mesh stands among its steps, walked either way
listed : (m : Mesh) (u : SubSegment) (forward : Bool) → In m.subs u → In (steps_of m) (record { sub = u; forward = forward })
listed m u true i = in_left (map ahead m.subs) (map back (map ahead m.subs)) (ahead u) (in_map ahead m.subs u i)
listed m u false i = in_right (map ahead m.subs) (map back (map ahead m.subs)) (back (ahead u)) (in_map back (map ahead m.subs) (ahead u) (in_map ahead m.subs u i))

-- the side of a line changes along a segment as the two turn
turns_by : (s z : Seg) → cross_of s.a s.b z.b -ℤ cross_of s.a s.b z.a ≡ turning (run s) (run z)
turns_by s z = ring (Sub (cross_of_poly s.a s.b z.b) (cross_of_poly s.a s.b z.a)) (Sub (Mul (Sub (V s.b.x) (V s.a.x)) (Sub (V z.b.y) (V z.a.y))) (Mul (Sub (V s.b.y) (V s.a.y)) (Sub (V z.b.x) (V z.a.x)))) (omega arith)

walked_long : (forward : Bool) (s : Seg) → s.a ≢ s.b → (cond forward s (turned s)).a ≢ (cond forward s (turned s)).b
walked_long true s apart = apart
walked_long false s apart = λ e. apart (sym e)

true_test : (x y : Bool) → x ≡ true → y ≡ false → (x && not y) ≡ true
true_test true true e k = absurd (cc (k))
true_test true false e k = refl
true_test false y e k = e

module _ (same : SamePiece) (lines : FieldsKeepLines) (convex : PiecesAreConvex) (f : Field) (h : IsField f) (block : ℕ → ℕ → ℕ) (q : Piece) (inside : Contains (whole_mesh f block).pieces q) where
  abbrev m : Mesh
  m = whole_mesh f block

  abbrev outer : List Step
  outer = boundary m (same_piece q)

  -- ---- a part of a leg along the piece is a step of its outline

  module _ (w : Walk) (p : HasPart f h q w) where
    abbrev step : Step
    step = record { sub = Part w.link p.band; forward = w.forward }

    there : In m.subs (Part w.link p.band)
    there = in_parts f (all_cells f) block w.link p.band p.beside.listed p.there

    right : within (same_piece q) (m.right_of step) ≡ true
    right = ap (λ o. within (same_piece q) (option_map (piece_at f p.band) o)) p.beside.right ∙ (ap (same_piece q) p.is ∙ (same q q).1 refl)

    left : within (same_piece q) (left_of m step) ≡ false
    left = by (right_tri (all_cells f) (record { link = w.link; forward = not w.forward })) refl
      where
        other : (t : Tri) → right_tri (all_cells f) (record { link = w.link; forward = not w.forward }) ≡ Some t → (x : Bool) → same_piece q (piece_at f p.band t) ≡ x → x ≡ false
        other t e true k =
            let g : q.tri ≡ t = ap (λ z. z.tri) ((same q (piece_at f p.band t)).0 k) in
            absurd (one_side (all_cells f) w t (p.beside.right ∙ ap Some g) e)
        other t e false k = refl

        by : (o : Option Tri) → right_tri (all_cells f) (record { link = w.link; forward = not w.forward }) ≡ o → within (same_piece q) (option_map (piece_at f p.band) o) ≡ false
        by None e = refl
        by (Some t) e = other t e (same_piece q (piece_at f p.band t)) refl

    on_outline : In outer step
    on_outline = in_filter (λ x. within (same_piece q) (m.right_of x) && not (within (same_piece q) (m.right_of (back x)))) (steps (borders m)) step
        (listed m (Part w.link p.band) w.forward there)
        (true_test (within (same_piece q) (m.right_of step)) (within (same_piece q) (left_of m step)) right left)

    long : (walked m step).a ≢ (walked m step).b
    long = walked_long w.forward (m.ends (Part w.link p.band)) (All-contains (λ u. (m.ends u).a ≢ (m.ends u).b) m.subs (Part w.link p.band) (lines f block h).long (contains m.subs (Part w.link p.band) there))

    runs : RunsWith (walked m step) (side f h q w)
    runs = part_runs f h w p.beside.leg p.band long

  -- ---- two of them lie round a corner

  module _ (c : HasTwoLegs f h q) where
    abbrev one : Step
    one = step c.one c.first

    abbrev two : Step
    two = step c.two c.second

    -- where the second ends
    abbrev origin : Point
    origin = (walked m two).b

    turns : turning (run (walked m one)) (run (walked m two)) <ℤ pos 0
    turns = turn_alike (walked m one) (walked m two) (side f h q c.one) (side f h q c.two) (runs c.one c.first) (runs c.two c.second) c.turns

    ends_in : (s : Step) → In outer s → (cross_of (walked m s).a (walked m s).b (walked m two).a ≤ℤ pos 0) × (cross_of (walked m s).a (walked m s).b origin ≤ℤ pos 0)
    ends_in s i =
        let k = convex f block h q two inside (contains outer two (on_outline c.two c.second)) in
        let there_s = contains outer s i in (
          All-contains (λ s. cross_of (walked m s).a (walked m s).b (walked m two).a ≤ℤ pos 0) outer s k.0 there_s,
          All-contains (λ s. cross_of (walked m s).a (walked m s).b origin ≤ℤ pos 0) outer s k.1 there_s,
        )

    from_zero : (s : Step) → In outer s → pos 0 ≤ℤ slice origin (walked m s)
    from_zero s i = let k = (ends_in s i).1 in omega (arith, ints, k)

    positive : pos 0 <ℤ slice origin (walked m one)
    positive =
        let k = (ends_in one (on_outline c.one c.first)).0 in
        let e = turns_by (walked m one) (walked m two) in
        let t = turns in
        omega (arith, ints, k, e, t)

    pub has_area : BoundarySum Step Piece → WalksBothWays → pos 0 <ℤ area_sum (map (walked m) outer)
    has_area sum ways = subst (λ z. pos 0 <ℤ z) (sym (area_in_slices sum ways f block q inside origin)) (total_positive (λ s. slice origin (walked m s)) outer one from_zero (on_outline c.one c.first) positive)

pub pieces_have_area : BoundarySum Step Piece → WalksBothWays → SamePiece → FieldsKeepLines → PiecesAreConvex → PiecesHaveArea
pieces_have_area sum ways same lines convex f block h q inside = has_area same lines convex f h block q inside (piece_legs f h block q inside) sum ways

-- ---- sets of pieces

pub sets_have_area : AreaOverPieces → PiecesOnce → PiecesHaveArea → SetsHaveArea
sets_have_area over once each f block h F q inside member =
    let m = whole_mesh f block in
    let area = λ (p : Piece). area_sum (map (walked m) (boundary m (same_piece p))) in
    subst (λ z. pos 0 <ℤ z) (sym (over m F (once f (all_cells f) block)))
    (total_positive (λ p. cond (F p) (area p) (pos 0)) m.pieces q
    (λ p i. share_of (F p) (area p) (each f block h p (contains m.pieces p i)))
    (is_in m.pieces q inside)
    (subst (λ x. pos 0 <ℤ cond x (area q) (pos 0)) (sym member) (each f block h q inside)))
  where
    share_of : (x : Bool) (z : ℤ) → pos 0 <ℤ z → pos 0 ≤ℤ cond x z (pos 0)
    share_of true z l = omega (arith, ints, l)
    share_of false z l = omega (arith, ints)

-- ---- rings

exterior : (segs : List Seg) → pos 0 <ℤ area_sum segs → IsTrue (is_exterior segs)
exterior segs l = grind (arith, ints, l)

any_of : {X : Type 0} (P : X → Type 0) (xs : List X) (x : X) → In xs x → P x → Any P xs
any_of P xs x i p = let c = contains xs x i in (c.0, x, c.1, c.2, p)

pub some_ring_is_exterior : SetsHaveArea → SomeRingIsExterior
some_ring_is_exterior area f block h F q inside member rings are =
    let m = whole_mesh f block in
    let segs = map (walked m) (boundary m F) in
    let e : area_sum segs ≡ total area_sum rings =
    total-IsPermutation share segs (flat_map (λ ring. ring) rings) are.each_once
    ∙ total-flat_map share (λ (ring : List Seg). ring) rings in
    let k = positive_member area_sum rings (subst (λ z. pos 0 <ℤ z) e (area f block h F q inside member)) in
    any_of (λ ring. IsTrue (is_exterior ring)) rings k.0 k.1 (exterior k.0 k.2)
