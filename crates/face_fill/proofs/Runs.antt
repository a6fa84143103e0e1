-- The items of one more triangle of a rectangle.
use Rattle.std.proofs.Common.{◌≡◌, ℕ, zero, suc, ◌+◌, ◌-◌, ◌<◌, ◌≤◌, ◌⊎◌, ⊎_elim, inl, inr, true, false, List, [], ◌∷◌, ◌++◌, length, get_or, Some, None, refl, sym, ap, ap₂, ◌∙◌, subst, mul-le-mul, arith}
use Rattle.std.specs.Prelude.{Option, Contains, IfSome, replicate}
use Rattle.std.proofs.lemmas.Bool.{cases_eq, cases_order}
use Rattle.std.proofs.lemmas.List.{get_or-append_right, get_or-replicate, get_or_append_left, get_or_push, length-append, length-replicate, length_push}
use Rattle.mesh_definitions.specs.Faces.{kind, IsAdjacent, Joined}
use Rattle.mesh_definitions.specs.Faces.Joined.{Here, Over}
use Rattle.mesh_definitions.specs.Field.{Field}
use Rattle.mesh_definitions.specs.Mesh.{Walk, has_cell}
use Rattle.mesh_definitions.specs.Pieces.{mesh_of, part_bands, piece_at, pieces_of}
use Rattle.mesh_definitions.specs.declared.Rect.{Rect}
use Rattle.mesh_definitions.specs.declared.Tri.{Tri}
use Rattle.mesh_definitions.specs.declared.Class.{Class}
use Rattle.mesh_definitions.specs.declared.Way.TheVariants.{Down, Slant}
use Rattle.mesh_definitions.specs.declared.Way.{Way}
use Rattle.face_fill.specs.Beside.{has_part, sides_adjacent}
use Rattle.face_fill.specs.Corners.{AreNodeBands}
use Rattle.face_fill.specs.Ends.{some_part}
use Rattle.face_fill.specs.Items.{AreItems, beyond, count_at, leg, piece_by, piece_of, tri_of, turned_walk}
use Rattle.face_fill.specs.Legs.{IsLeg, beyond_is_leg, right_of_leg}
use Rattle.face_fill.specs.Listed.{leg_in}
use Rattle.face_fill.specs.Numbered.{first_band}
use Rattle.face_fill.specs.Places.{tri_placed}
use Rattle.face_fill.specs.Runs.{AreListed, GoesOn, IsBefore, IsLook}
use Rattle.face_fill.specs.declared.tables.Items.{Items}
use Rattle.face_fill.specs.declared.tables.Look.{Look}
use Rattle.tri_mesh.specs.TriNumbers.{place_in, tri_at, tri_count}

-- a number is below another or not
below_or_not : (i n : ℕ) → (i < n) ⊎ (n ≤ i)
below_or_not i n = ⊎_elim (λ e. inr (omega (arith, e))) (⊎_elim (λ l. inl l) (λ g. inr (omega (arith, g)))) (cases_order i n)

-- one more triangle, with its first item, its count and all owners: those that there were stay, and more ones are the triangle's own
module _ (f : Field) (r : Rect) (block : ℕ → ℕ → ℕ) (n : ℕ) (starts counts owners : List ℕ) (h : AreItems f r block n starts counts owners) (s c : ℕ) (owners' : List ℕ)
    (count : c ≡ count_at f r n)
    (grown : length owners ≤ length owners')
    (old : (i : ℕ) → i < length owners → get_or owners' i 0 ≡ get_or owners i 0)
    (new : (i : ℕ) → length owners ≤ i → i < length owners' → (get_or owners' i 0 ≡ n) × (s ≤ i) × (i < s + count_at f r n))
    (fits : s + count_at f r n ≤ length owners')
    (few : length owners' ≤ length owners + 21) where
  -- the first items
  abbrev starts' : List ℕ
  starts' = starts ++ s ∷ []

  at_start : (k : ℕ) → k < n → get_or starts' k 0 ≡ get_or starts k 0
  at_start k l = get_or_append_left starts (s ∷ []) 0 k (omega (arith, l, h.each_start))

  at_new : get_or starts' n 0 ≡ s
  at_new = get_or_push starts s 0 n h.each_start

  -- an item that there was has the piece that it had
  pub old_piece : (i : ℕ) → i < length owners → piece_of f r starts' owners' i ≡ piece_of f r starts owners i
  old_piece i l =
      let o = get_or owners i 0 in
      ap (λ o. piece_by (tri_at r o) (first_band f (tri_at r o) + (i - get_or starts' o 0))) (old i l)
      ∙ ap (λ k. piece_by (tri_at r o) (first_band f (tri_at r o) + (i - k))) (at_start o (h.below i l))

  from_old : (i : ℕ) → i < length owners → get_or starts' (get_or owners' i 0) 0 ≡ get_or starts (get_or owners i 0) 0
  from_old i l = ap (λ o. get_or starts' o 0) (old i l) ∙ at_start (get_or owners i 0) (h.below i l)

  from_new : (i : ℕ) → length owners ≤ i → i < length owners' → get_or starts' (get_or owners' i 0) 0 ≡ s
  from_new i l m = ap (λ o. get_or starts' o 0) (new i l m).0 ∙ at_new

  -- where the triangle's own pieces are joined to those of their items, all are listed
  pub one_more : ((b : ℕ) → b < count_at f r n → Joined (mesh_of f r block) (piece_by (tri_at r n) (first_band f (tri_at r n) + b)) (piece_of f r (starts ++ s ∷ []) owners' (s + b)))
      → AreItems f r block (n + 1) (starts ++ s ∷ []) (counts ++ c ∷ []) owners'
  one_more last = record {
    each_start = omega (arith, length_push starts s, h.each_start);
    each_count = omega (arith, length_push counts c, h.each_count);
    counted = λ k l. ⊎_elim
        (λ e. ap (λ k. get_or (counts ++ c ∷ []) k 0) e ∙ (get_or_push counts c 0 n h.each_count ∙ (count ∙ ap (count_at f r) (sym e))))
        (λ d. get_or_append_left counts (c ∷ []) 0 k (omega (arith, l, d, h.each_count)) ∙ h.counted k (omega (arith, l, d)))
        (cases_eq k n);
    within = λ k l. ⊎_elim
        (λ e. subst (λ k. get_or starts' k 0 + count_at f r k ≤ length owners') (sym e) (omega (arith, at_new, fits)))
        (λ d. let m : k < n = omega (arith, l, d) in omega (arith, at_start k m, h.within k m, grown))
        (cases_eq k n);
    below = λ i l. ⊎_elim (λ o. omega (arith, old i o, h.below i o)) (λ o. omega (arith, (new i o l).0)) (below_or_not i (length owners));
    from = λ i l. ⊎_elim (λ o. omega (arith, from_old i o, h.from i o)) (λ o. omega (arith, from_new i o l, (new i o l).1)) (below_or_not i (length owners));
    to = λ i l. ⊎_elim
        (λ o. omega (arith, from_old i o, h.to i o, ap (count_at f r) (old i o)))
        (λ o. let t : i < s + count_at f r n = (new i o l).2 in omega (arith, from_new i o l, t, ap (count_at f r) (new i o l).0))
        (below_or_not i (length owners));
    joined = λ k b l m. ⊎_elim
        (λ e. subst (λ k. (b : ℕ) → b < count_at f r k → Joined (mesh_of f r block) (piece_by (tri_at r k) (first_band f (tri_at r k) + b)) (piece_of f r starts' owners' (get_or starts' k 0 + b))) (sym e)
        (λ b m. subst (λ z. Joined (mesh_of f r block) (piece_by (tri_at r n) (first_band f (tri_at r n) + b)) (piece_of f r starts' owners' (z + b))) (sym at_new) (last b m)) b m)
        (λ d.
        let k' : k < n = omega (arith, l, d) in
        let i : get_or starts k 0 + b < length owners = omega (arith, h.within k k', m) in
        subst (λ z. Joined (mesh_of f r block) (piece_by (tri_at r k) (first_band f (tri_at r k) + b)) (piece_of f r starts' owners' (z + b))) (sym (at_start k k'))
        (subst (Joined (mesh_of f r block) (piece_by (tri_at r k) (first_band f (tri_at r k) + b))) (sym (old_piece (get_or starts k 0 + b) i)) (h.joined k b k' m)))
        (cases_eq k n);
    few = omega (arith, few, h.few);
  }

-- ---- a triangle with items of its own

pub items_more : (f : Field) (r : Rect) (block : ℕ → ℕ → ℕ) (n : ℕ) (starts counts owners : List ℕ) → AreItems f r block n starts counts owners
    → (c : ℕ) → c ≡ count_at f r n → c ≤ 21 → AreItems f r block (n + 1) (starts ++ length owners ∷ []) (counts ++ c ∷ []) (owners ++ replicate c n)
items_more f r block n starts counts owners h c count small =
    one_more f r block n starts counts owners h (length owners) c (owners ++ replicate c n) count (omega (arith, size)) old new (omega (arith, size, count)) (omega (arith, size, small)) last
  where
    size : length (owners ++ replicate c n) ≡ length owners + c
    size = length-append owners (replicate c n) ∙ ap (λ k. length owners + k) (length-replicate c n)

    old : (i : ℕ) → i < length owners → get_or (owners ++ replicate c n) i 0 ≡ get_or owners i 0
    old i l = get_or_append_left owners (replicate c n) 0 i l

    at : (i : ℕ) → length owners ≤ i → i < length (owners ++ replicate c n) → get_or (owners ++ replicate c n) i 0 ≡ n
    at i l m = get_or-append_right owners (replicate c n) (length owners) i 0 refl l ∙ get_or-replicate c (i - length owners) n 0 (omega (arith, l, m, size))

    new : (i : ℕ) → length owners ≤ i → i < length (owners ++ replicate c n) → (get_or (owners ++ replicate c n) i 0 ≡ n) × (length owners ≤ i) × (i < length owners + count_at f r n)
    new i l m = (at i l m, l, omega (arith, m, size, count))

    last : (b : ℕ) → b < count_at f r n → Joined (mesh_of f r block) (piece_by (tri_at r n) (first_band f (tri_at r n) + b)) (piece_of f r (starts ++ length owners ∷ []) (owners ++ replicate c n) (length owners + b))
    last b m =
        let i = length owners + b in
        let o : get_or (owners ++ replicate c n) i 0 ≡ n = at i (omega arith) (omega (arith, m, size, count)) in
        let s : get_or (starts ++ length owners ∷ []) n 0 ≡ length owners = get_or_push starts (length owners) 0 n h.each_start in
        let k : i - get_or (starts ++ length owners ∷ []) n 0 ≡ b = omega (arith, s) in
        let e : piece_of f r (starts ++ length owners ∷ []) (owners ++ replicate c n) i ≡ piece_by (tri_at r n) (first_band f (tri_at r n) + b) =
        ap (λ o. piece_by (tri_at r o) (first_band f (tri_at r o) + (i - get_or (starts ++ length owners ∷ []) o 0))) o ∙ ap (λ k. piece_by (tri_at r n) (first_band f (tri_at r n) + k)) k in
        subst (Joined (mesh_of f r block) (piece_by (tri_at r n) (first_band f (tri_at r n) + b))) (sym e) Here

-- ---- a triangle that shares the last item

-- the one piece of a triangle is the piece at any part of its legs
lone_at : (f : Field) (r : Rect) (t : Tri) (w : Walk) (b : ℕ) → IsLeg r w t → Contains (part_bands f w.link) b → length (pieces_of f t) ≡ 1 → piece_at f b t ≡ piece_by t (first_band f t)
lone_at f r t w b l c one =
    let m = has_part f r t w b l c in
    let e : (piece_at f b t).band ≡ first_band f t = omega (arith, m.low, m.high, one) in
    ap (piece_by t) e

-- two triangles with one piece each, of one kind, where one lies beyond a leg of the other: their pieces are adjacent
pub lone_adjacent : (f : Field) (r : Rect) (block : ℕ → ℕ → ℕ) (t u : Tri) (way : Way) → has_cell r t.row t.col ≡ true → beyond r t way ≡ Some u → length (pieces_of f t) ≡ 1 → length (pieces_of f u) ≡ 1
    → kind (mesh_of f r block) (piece_by t (first_band f t)) ≡ kind (mesh_of f r block) (piece_by u (first_band f u)) → IsAdjacent (mesh_of f r block) (piece_by t (first_band f t)) (piece_by u (first_band f u))
lone_adjacent f r block t u way cell e one two k =
    let w = leg t way in
    let s = some_part f w.link in
    let m = mesh_of f r block in
    let a : piece_at f s.0 t ≡ piece_by t (first_band f t) = lone_at f r t w s.0 (record { inside = cell; way = way; is = refl }) s.1 one in
    let b : piece_at f s.0 u ≡ piece_by u (first_band f u) = lone_at f r u (turned_walk w) s.0 (beyond_is_leg r t u way e) s.1 two in
    let n = sides_adjacent f r block w.link s.0 w.forward t u (leg_in r t cell way) s.1 (right_of_leg r t cell way) e (ap (kind m) a ∙ (k ∙ sym (ap (kind m) b))) in
    subst (IsAdjacent m (piece_by t (first_band f t))) b (subst (λ p. IsAdjacent m p (piece_at f s.0 u)) a n)

pub run_more : (f : Field) (r : Rect) (block : ℕ → ℕ → ℕ) (n : ℕ) (starts counts owners : List ℕ) → AreItems f r block n starts counts owners
    → (t u : Tri) → has_cell r t.row t.col ≡ true → n ≡ place_in r t → has_cell r u.row u.col ≡ true → place_in r u < n → length (pieces_of f t) ≡ 1 → length (pieces_of f u) ≡ 1
    → IsAdjacent (mesh_of f r block) (piece_by t (first_band f t)) (piece_by u (first_band f u)) → get_or starts (place_in r u) 0 + 1 ≡ length owners
    → AreItems f r block (n + 1) (starts ++ (length owners - 1) ∷ []) (counts ++ 1 ∷ []) owners
run_more f r block n starts counts owners h t u cell place other listed one two a end =
    one_more f r block n starts counts owners h (length owners - 1) 1 owners (sym one_here) (omega arith) (λ i l. refl) (λ i l m. absurd (omega (arith, l, m))) (omega (arith, one_here, end)) (omega arith) last
  where
    here : tri_at r n ≡ t
    here = ap (tri_at r) place ∙ tri_placed r t cell

    one_here : count_at f r n ≡ 1
    one_here = ap (λ t. length (pieces_of f t)) here ∙ one

    there : tri_at r (place_in r u) ≡ u
    there = tri_placed r u other

    two_there : count_at f r (place_in r u) ≡ 1
    two_there = ap (λ t. length (pieces_of f t)) there ∙ two

    last : (b : ℕ) → b < count_at f r n → Joined (mesh_of f r block) (piece_by (tri_at r n) (first_band f (tri_at r n) + b)) (piece_of f r (starts ++ (length owners - 1) ∷ []) owners (length owners - 1 + b))
    last b l =
        let z : b ≡ 0 = omega (arith, l, one_here) in
        let q : piece_by t (first_band f t) ≡ piece_by (tri_at r n) (first_band f (tri_at r n) + b) =
        ap (λ t. piece_by t (first_band f t)) (sym here) ∙ ap (piece_by (tri_at r n)) (let e : first_band f (tri_at r n) ≡ first_band f (tri_at r n) + b = omega (arith, z) in e) in
        let k : get_or starts (place_in r u) 0 + 0 ≡ length owners - 1 + b = omega (arith, end, z) in
        let p : piece_by (tri_at r (place_in r u)) (first_band f (tri_at r (place_in r u)) + 0) ≡ piece_by u (first_band f u) =
        ap (λ t. piece_by t (first_band f t + 0)) there ∙ ap (piece_by u) (let e : first_band f u + 0 ≡ first_band f u = omega arith in e) in
        let j = subst (λ p. Joined (mesh_of f r block) p (piece_of f r starts owners (get_or starts (place_in r u) 0 + 0))) p (h.joined (place_in r u) 0 listed (omega (arith, two_there))) in
        let same = old_piece f r block n starts counts owners h (length owners - 1) 1 owners (sym one_here) (omega arith) (λ i l. refl) (λ i l m. absurd (omega (arith, l, m))) (omega (arith, one_here, end)) (omega arith) (length owners - 1 + b) (omega (arith, end, z)) in
        subst (λ p. Joined (mesh_of f r block) p (piece_of f r (starts ++ (length owners - 1) ∷ []) owners (length owners - 1 + b))) q
        (Over a (subst (Joined (mesh_of f r block) (piece_by u (first_band f u))) (ap (piece_of f r starts owners) k ∙ sym same) j))

-- a triangle that goes on with the item of the one before it
pub run_on : (f : Field) (r : Rect) (block : ℕ → ℕ → ℕ) (n : ℕ) (items : Items) (before : Option Look) (t : Tri) (look : Look) → AreListed f r block n items → has_cell r t.row t.col ≡ true → n ≡ place_in r t
    → IfSome before (IsBefore f r block n items t) → GoesOn before look → IsLook f r block t look
    → AreItems f r block (n + 1) (items.starts.items ++ (length items.owners.items - 1) ∷ []) (items.counts.items ++ look.count ∷ []) items.owners.items
run_on f r block n items None t look h cell place before g is = absurd g
run_on f r block n items (Some b) t look h cell place before g is =
    let u = before.tri in
    let one : length (pieces_of f t) ≡ 1 = sym is.count ∙ g.1 in
    let two : length (pieces_of f u) ≡ 1 = sym before.last.look.count ∙ g.0 in
    let other = (beyond_is_leg r t u before.way before.there).inside in
    let m = mesh_of f r block in
    let k : kind m (piece_by t (first_band f t)) ≡ kind m (piece_by u (first_band f u)) =
    is.first ∙ (ap₂ (λ a b. let x : Class × ℕ = (a, b) in x) (sym g.2) (sym g.3) ∙ sym before.last.look.first) in
    let a = lone_adjacent f r block t u before.way cell before.there one two k in
    subst (λ c. AreItems f r block (n + 1) (items.starts.items ++ (length items.owners.items - 1) ∷ []) (items.counts.items ++ c ∷ []) items.owners.items) (sym g.1)
    (run_more f r block n items.starts.items items.counts.items items.owners.items h t u cell place other before.last.listed one two a (before.last.last g.0))

-- the triangle west of an upper one, and the upper one of the same cell
pub west_of : (r : Rect) (i k : ℕ) → 0 < k → has_cell r i (k - 1) ≡ true → beyond r (tri_of i k true) Down ≡ Some (tri_of i (k - 1) false)
west_of r i zero l h = absurd (omega (arith, l))
west_of r i (suc k) l h = let e : suc k - 1 ≡ k = omega arith in let h' : has_cell r i k ≡ true = ap (has_cell r i) (sym e) ∙ h in rw h' (ap (λ k. Some (tri_of i k false)) (sym e))

pub upper_of : (r : Rect) (i k : ℕ) → has_cell r i k ≡ true → beyond r (tri_of i k false) Slant ≡ Some (tri_of i k true)
upper_of r i k h = rw h refl

-- nothing is listed of no triangle
pub none_listed : (f : Field) (r : Rect) (block : ℕ → ℕ → ℕ) (starts counts owners : List ℕ) → length starts ≡ 0 → length counts ≡ 0 → length owners ≡ 0 → AreItems f r block 0 starts counts owners
none_listed f r block starts counts owners s c o = record {
  each_start = s;
  each_count = c;
  counted = λ k l. absurd (omega (arith, l));
  within = λ k l. absurd (omega (arith, l));
  below = λ i l. absurd (omega (arith, l, o));
  from = λ i l. absurd (omega (arith, l, o));
  to = λ i l. absurd (omega (arith, l, o));
  joined = λ k b l m. absurd (omega (arith, l));
  few = omega (arith, o);
}

-- a rectangle of a field has at most 2^21 triangles
pub few_triangles : (f : Field) (r : Rect) (bands : List (Option ℕ)) → AreNodeBands f r bands → tri_count r ≤ 2097152
few_triangles f r bands h =
    let rows : r.rows ≤ 1024 = omega (arith, h.inside.south, h.few_rows, h.inside.some_rows) in
    let cols : r.cols ≤ 1024 = omega (arith, h.inside.east, h.few_cols, h.inside.some_cols) in
    let l = mul-le-mul rows cols in
    omega (arith, l)
