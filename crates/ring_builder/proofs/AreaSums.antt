-- Area sums: one more segment, one more part, and segments walked back.
use Rattle.std.proofs.Common.{◌≡◌, ℕ, ◌+◌, ◌*◌, ◌-◌, ◌^◌, ◌<◌, ◌≤◌, false, cond, ℤ, pos, ◌+ℤ◌, ◌-ℤ◌, ◌*ℤ◌, neg_ℤ, unsigned_abs, to_z, of_z, List, [], ◌∷◌, ◌++◌, map, reverse, length, take, get_or, flat_map, refl, ap, ap₂, sym, ◌∙◌, arith}
use Rattle.std.proofs.lemmas.Int.{ints, to_z-of_z, fits_signed_from_abs}
use Rattle.std.proofs.lemmas.List.{append-nil, take_more}
use Rattle.std.proofs.lemmas.List.Concat.{flat_map-append}
use Rattle.std.proofs.lemmas.List.Sorted.{IsPermutation-reverse}
use Rattle.boundary_arcs.specs.Edges.{arc_of}
use Rattle.boundary_arcs.specs.declared.arc.Arc.{Arc}
use Rattle.mesh_definitions.specs.Rings.{area_sum}
use Rattle.chart_model.proofs.Joining.{joins_more}
use Rattle.plane_geom.specs.Segments.{joins, turned}
use Rattle.plane_geom.specs.declared.Point.{Point}
use Rattle.plane_geom.specs.declared.Seg.{Seg}
use Rattle.plane_laws.proofs.Algebra.{ring}
use Rattle.plane_laws.proofs.Algebra.Poly.{V, Add, Sub, Mul, Neg}
use Rattle.plane_laws.proofs.Sums.{total-append, total-IsPermutation}
use Rattle.ring_builder.specs.Parts.{part_segments}
use Rattle.ring_builder.specs.declared.ring.Part.{Part}
use mir.Syntax.{w128}

abbrev share : Seg → ℤ
share s = (s.b.x -ℤ s.a.x) *ℤ (s.b.y +ℤ s.a.y)

area-append : (xs ys : List Seg) → area_sum (xs ++ ys) ≡ area_sum xs +ℤ area_sum ys
area-append xs ys = total-append share xs ys

share-turned : (s : Seg) → share (turned s) ≡ neg_ℤ (share s)
share-turned s = ring (Mul (Sub (V s.a.x) (V s.b.x)) (Add (V s.a.y) (V s.b.y))) (Neg (Mul (Sub (V s.b.x) (V s.a.x)) (Add (V s.b.y) (V s.a.y)))) (omega arith)

area-turned : (xs : List Seg) → area_sum (map turned xs) ≡ neg_ℤ (area_sum xs)
area-turned [] = refl
area-turned (x ∷ xs) = ap₂ ◌+ℤ◌ (share-turned x) (area-turned xs) ∙ opposite (share x) (area_sum xs)
  where
    opposite : (a b : ℤ) → neg_ℤ a +ℤ neg_ℤ b ≡ neg_ℤ (a +ℤ b)
    opposite a b = omega (arith, ints)

-- segments walked back
pub area_back : (xs : List Seg) → area_sum (map turned (reverse xs)) ≡ neg_ℤ (area_sum xs)
area_back xs = area-turned (reverse xs) ∙ ap neg_ℤ (sym (total-IsPermutation share xs (reverse xs) (IsPermutation-reverse xs)))

one_alone : (s : Seg) → area_sum (s ∷ []) ≡ share s
one_alone s = alone (share s)
  where
    alone : (z : ℤ) → z +ℤ pos 0 ≡ z
    alone z = omega (arith, ints)

pub along_more : (ps : List Point) (i : ℕ) (d e : Point) (sum r : ℤ) → 0 < i → i < length ps → sum ≡ area_sum (joins (take i ps)) → r ≡ ((get_or ps i e).x -ℤ (get_or ps (i - 1) d).x) *ℤ ((get_or ps i e).y +ℤ (get_or ps (i - 1) d).y) → sum +ℤ r ≡ area_sum (joins (take (i + 1) ps))
along_more ps i d e sum r low h s t =
    let seg : Seg = record { a = get_or ps (i - 1) d; b = get_or ps i e } in
    ap₂ ◌+ℤ◌ s (t ∙ sym (one_alone seg)) ∙ sym (area-append (joins (take i ps)) (seg ∷ [])) ∙ ap area_sum (sym (joins_more ps i d e low h))

pub parts_more : (arcs : List Arc) (parts : List Part) (i : ℕ) (d : Part) (sum r : ℤ) → i < length parts → sum ≡ area_sum (flat_map (part_segments arcs) (take i parts)) → r ≡ area_sum (part_segments arcs (get_or parts i d)) → sum +ℤ r ≡ area_sum (flat_map (part_segments arcs) (take (i + 1) parts))
parts_more arcs parts i d sum r h s t =
    let f : Part → List Seg = part_segments arcs in
    ap₂ ◌+ℤ◌ s t ∙ sym (area-append (flat_map f (take i parts)) (f (get_or parts i d)))
    ∙ ap area_sum (ap (λ z. flat_map f (take i parts) ++ z) (sym (append-nil (f (get_or parts i d)))) ∙ sym (flat_map-append f (take i parts) (get_or parts i d ∷ [])) ∙ ap (flat_map f) (sym (take_more parts i d h)))

-- a running sum, where each adds little
module _ (sum r : ℤ) (i each : ℕ) (h : unsigned_abs sum ≤ i * each) (k : unsigned_abs r ≤ each) (l : (i + 1) * each ≤ 2 ^ 126) where
  split : (i + 1) * each ≡ i * each + each
  split = omega arith

  pub both_small : unsigned_abs (sum +ℤ r) ≤ (i + 1) * each
  both_small = let e = split in omega (arith, ints)

  one_back : to_z w128 (of_z w128 r) ≡ r
  one_back = let e = split in to_z-of_z w128 r (fits_signed_from_abs w128 r (omega arith))

  pub sum_back : to_z w128 (of_z w128 (sum +ℤ to_z w128 (of_z w128 r))) ≡ sum +ℤ r
  sum_back = ap (λ z. to_z w128 (of_z w128 (sum +ℤ z))) one_back ∙ to_z-of_z w128 (sum +ℤ r) (fits_signed_from_abs w128 (sum +ℤ r) (omega (arith, both_small, l)))

-- a part walked back has the opposite of its edge's area sum
pub back_area : (arcs : List Arc) (q : Part) (ps : List Point) (sum : ℤ) → q.forward ≡ false → ps ≡ (arc_of arcs q.arc).points → sum ≡ area_sum (joins ps) → unsigned_abs sum ≤ 2 ^ 94 → to_z w128 (of_z w128 (pos 0 -ℤ to_z w128 (of_z w128 sum))) ≡ area_sum (part_segments arcs q)
back_area arcs q ps sum b e v h =
    let segs = joins (arc_of arcs q.arc).points in
    opposite sum h ∙ ap neg_ℤ (v ∙ ap (λ z. area_sum (joins z)) e) ∙ sym (area_back segs) ∙ ap (λ f. area_sum (cond f segs (map turned (reverse segs)))) (sym b)
  where
    minus : (z : ℤ) → pos 0 -ℤ z ≡ neg_ℤ z
    minus z = omega (arith, ints)

    small : (z : ℤ) → unsigned_abs z ≤ 2 ^ 94 → unsigned_abs (neg_ℤ z) ≤ 2 ^ 94
    small z h = omega (arith, ints)

    opposite : (z : ℤ) → unsigned_abs z ≤ 2 ^ 94 → to_z w128 (of_z w128 (pos 0 -ℤ to_z w128 (of_z w128 z))) ≡ neg_ℤ z
    opposite z h =
        ap (λ y. to_z w128 (of_z w128 (pos 0 -ℤ y))) (to_z-of_z w128 z (fits_signed_from_abs w128 z (omega arith)))
        ∙ ap (λ y. to_z w128 (of_z w128 y)) (minus z)
        ∙ to_z-of_z w128 (neg_ℤ z) (fits_signed_from_abs w128 (neg_ℤ z) (let k = small z h in omega arith))
