-- Pieces on the two sides of a part of a link, and chains of them.
use Rattle.std.proofs.Common.{◌≡◌, ℕ, ◌-◌, ◌≤◌, Bool, true, false, cond, Some, None, eqb, refl, sym, ap, ap₂, ◌∙◌, subst, arith}
use Rattle.std.specs.Prelude.{Option, not, Contains, option_map}
use Rattle.std.proofs.lemmas.Bool.{and_parts, and_from, eqb-true, eq-eqb}
use Rattle.mesh_definitions.specs.Faces.{kind, IsAdjacent, Joined}
use Rattle.mesh_definitions.specs.Faces.Joined.{Here, Over}
use Rattle.mesh_definitions.specs.Field.{Field}
use Rattle.mesh_definitions.specs.Mesh.{Walk, links, right_tri, surveyed}
use Rattle.mesh_definitions.specs.Pieces.{Mesh, back, mesh_of, piece_at, part_bands}
use Rattle.mesh_definitions.specs.declared.Class.TheVariants.{Unsurveyed, Band}
use Rattle.mesh_definitions.specs.declared.Class.{Class}
use Rattle.mesh_definitions.specs.declared.Link.{Link}
use Rattle.mesh_definitions.specs.declared.Piece.{Piece}
use Rattle.mesh_definitions.specs.declared.Rect.{Rect}
use Rattle.mesh_definitions.specs.declared.Sub.TheVariants.{Part, Chord}
use Rattle.mesh_definitions.specs.declared.Sub.{Sub}
use Rattle.mesh_definitions.specs.declared.Tri.{Tri}
use Rattle.face_fill.specs.Items.{alike, leg, piece_by}
use Rattle.face_fill.specs.Ends.{leg_ends, part_of, passes_within, chord_above, count_surveyed, count_unsurveyed}
use Rattle.face_fill.specs.Legs.{IsLeg}
use Rattle.face_fill.specs.Listed.{InMesh, in_parts, of_parts, of_chords}

-- ---- small facts

pub of_option_map : {X Y : Type 0} (g : X → Y) (o : Option X) (y : Y) → option_map g o ≡ Some y → (x : X) × (o ≡ Some x) × (g x ≡ y)
of_option_map g None y e = cc (e)
of_option_map g (Some x) y e = (x, refl, cc (e))

same_answer : (a b : Bool) → cond a b (not b) ≡ true → a ≡ b
same_answer true true e = refl
same_answer true false e = sym e
same_answer false true e = e
same_answer false false e = refl

answer_same : (a b : Bool) → a ≡ b → cond a b (not b) ≡ true
answer_same true true e = refl
answer_same true false e = sym e
answer_same false true e = e
answer_same false false e = refl

same_survey : (a b : Bool) (x y : ℕ) → cond a (Band x) Unsurveyed ≡ cond b (Band y) Unsurveyed → a ≡ b
same_survey true true x y e = refl
same_survey true false x y e = cc (e)
same_survey false true x y e = cc (e)
same_survey false false x y e = refl

pub alike_parts : (f : Field) (block : ℕ → ℕ → ℕ) (t u : Tri) → alike f block t u ≡ true → (block t.row t.col ≡ block u.row u.col) × (surveyed f t ≡ surveyed f u)
alike_parts f block t u e =
    let p = and_parts (eqb (block t.row t.col) (block u.row u.col)) (cond (surveyed f t) (surveyed f u) (not (surveyed f u))) e in
    (eqb-true (block t.row t.col) (block u.row u.col) p.0, same_answer (surveyed f t) (surveyed f u) p.1)

pub alike_from : (f : Field) (block : ℕ → ℕ → ℕ) (t u : Tri) → block t.row t.col ≡ block u.row u.col → surveyed f t ≡ surveyed f u → alike f block t u ≡ true
alike_from f block t u e s = and_from (eqb (block t.row t.col) (block u.row u.col)) (cond (surveyed f t) (surveyed f u) (not (surveyed f u))) (eq-eqb (block t.row t.col) (block u.row u.col) e) (answer_same (surveyed f t) (surveyed f u) s)

-- a triangle has a piece at each part of its legs
pub has_part : (f : Field) (r : Rect) (u : Tri) (w : Walk) (b : ℕ) → IsLeg r w u → Contains (part_bands f w.link) b → InMesh f r (piece_at f b u)
has_part f r u w b l c = by (surveyed f u) refl
  where
    by : (s : Bool) → surveyed f u ≡ s → InMesh f r (piece_by u (cond s b 0))
    by true e =
        let link : (leg u l.way).link ≡ w.link = ap (λ (w : Walk). w.link) l.is in
        let ends = leg_ends f u e l.way in
        let through = passes_within f u (leg u l.way).link b ends (part_of f u (leg u l.way).link b ends (subst (λ l. Contains (part_bands f l) b) (sym link) c)) in
        let n = count_surveyed f u e in
        record { cell = l.inside; low = omega (arith, n.0, through.0); high = omega (arith, n.0, n.1, through.0, through.1) }
    by false e = let n = count_unsurveyed f u e in record { cell = l.inside; low = omega (arith, n.0); high = omega (arith, n.0, n.1) }

module _ (f : Field) (r : Rect) (block : ℕ → ℕ → ℕ) where
  -- ---- triangles on both sides of a part of a link

  -- two pieces lie on the two sides of a part of a link
  pub record Shares (p q : Piece) : Type 0 where
    pub link : Link
    pub band : ℕ
    pub forward : Bool
    pub part : Contains (part_bands f link) band
    pub one : Tri
    pub two : Tri
    pub right : right_tri r (record { link = link; forward = forward }) ≡ Some one
    pub left : right_tri r (record { link = link; forward = not forward }) ≡ Some two
    pub here : piece_at f band one ≡ p
    pub there : piece_at f band two ≡ q

  -- a chord has pieces of two classes on its sides
  chords_part : (t : Tri) (k : ℕ) (forward : Bool) → surveyed f t ≡ true → 1 ≤ k → cond (surveyed f t) (Band (cond forward k (k - 1))) Unsurveyed ≡ cond (surveyed f t) (Band (cond (not forward) k (k - 1))) Unsurveyed → ⊥
  chords_part t k true s l e = let g : Band k ≡ Band (k - 1) = rw s at e in let h : k ≡ k - 1 = cc (g) in omega (arith, h, l)
  chords_part t k false s l e = let g : Band (k - 1) ≡ Band k = rw s at e in let h : k - 1 ≡ k = cc (g) in omega (arith, h, l)

  -- so adjacent pieces share a part of a link
  pub adjacent_shares : (p q : Piece) → IsAdjacent (mesh_of f r block) p q → Shares p q
  adjacent_shares p q a = by a.across.sub a.across.forward a.there a.right a.left
    where
      by : (s : Sub) (forward : Bool) → Contains (mesh_of f r block).subs s → (mesh_of f r block).right_of (record { sub = s; forward = forward }) ≡ Some p → (mesh_of f r block).right_of (record { sub = s; forward = not forward }) ≡ Some q → Shares p q
      by (Part l b) forward c e g =
          let x = of_option_map (piece_at f b) (right_tri r (record { link = l; forward = forward })) p e in
          let y = of_option_map (piece_at f b) (right_tri r (record { link = l; forward = not forward })) q g in
          record { link = l; band = b; forward = forward; part = of_parts f r block l b c; one = x.0; two = y.0; right = x.1; left = y.1; here = x.2; there = y.2 }
      by (Chord t k) forward c e g =
          let s = chord_above f t k (of_chords f r block t k c) in
          let x : piece_by t (cond forward k (k - 1)) ≡ p = cc (e) in
          let y : piece_by t (cond (not forward) k (k - 1)) ≡ q = cc (g) in
          let n = ap (kind (mesh_of f r block)) x ∙ (a.alike ∙ sym (ap (kind (mesh_of f r block)) y)) in
          absurd (chords_part t k forward s.0 s.1 (ap (λ (k : Class × ℕ). k.0) n))

  -- pieces of one kind on the two sides of a part of a link are adjacent
  pub sides_adjacent : (l : Link) (b : ℕ) (forward : Bool) (t u : Tri) → Contains (links r) l → Contains (part_bands f l) b
      → right_tri r (record { link = l; forward = forward }) ≡ Some t → right_tri r (record { link = l; forward = not forward }) ≡ Some u
      → kind (mesh_of f r block) (piece_at f b t) ≡ kind (mesh_of f r block) (piece_at f b u) → IsAdjacent (mesh_of f r block) (piece_at f b t) (piece_at f b u)
  sides_adjacent l b forward t u i c e g k = record {
    across = record { sub = Part l b; forward = forward };
    there = in_parts f r block l b i c;
    right = ap (option_map (piece_at f b)) e;
    left = ap (option_map (piece_at f b)) g;
    alike = k;
  }

  -- triangles that are alike have pieces of one kind at each part of a link, and others have none
  pub kind_by_alike : (t u : Tri) (b : ℕ) → alike f block t u ≡ true → kind (mesh_of f r block) (piece_at f b t) ≡ kind (mesh_of f r block) (piece_at f b u)
  kind_by_alike t u b e =
      let s = alike_parts f block t u e in
      ap₂ (λ s k. let x : Class × ℕ = (cond s (Band (cond s b 0)) Unsurveyed, k) in x) s.1 s.0

  pub alike_by_kind : (t u : Tri) (b : ℕ) → kind (mesh_of f r block) (piece_at f b t) ≡ kind (mesh_of f r block) (piece_at f b u) → alike f block t u ≡ true
  alike_by_kind t u b e = alike_from f block t u (ap (λ (k : Class × ℕ). k.1) e)
      (same_survey (surveyed f t) (surveyed f u) (cond (surveyed f t) b 0) (cond (surveyed f u) b 0) (ap (λ (k : Class × ℕ). k.0) e))

-- adjacency goes both ways
pub adjacent_back : (m : Mesh) (p q : Piece) → IsAdjacent m p q → IsAdjacent m q p
adjacent_back m p q a = record { across = back a.across; there = a.there; right = a.left; left = by a.across.sub a.across.forward a.right; alike = sym a.alike }
  where
    by : (s : Sub) (forward : Bool) → m.right_of (record { sub = s; forward = forward }) ≡ Some p → m.right_of (record { sub = s; forward = not (not forward) }) ≡ Some p
    by s true e = e
    by s false e = e

-- a chain goes on with another, and back
pub joined_on : (m : Mesh) (p q s : Piece) → Joined m p q → Joined m q s → Joined m p s
joined_on m p q s Here k = k
joined_on m p q s (Over {q = o} a c) k = Over a (joined_on m o q s c k)

pub joined_back : (m : Mesh) (p q : Piece) → Joined m p q → Joined m q p
joined_back m p q Here = Here
joined_back m p q (Over {q = o} a c) = joined_on m q o p (joined_back m o q c) (Over (adjacent_back m p o a) Here)

-- joined pieces are of one kind
pub same_kind : (m : Mesh) (p q : Piece) → Joined m p q → kind m p ≡ kind m q
same_kind m p q Here = refl
same_kind m p q (Over {q = o} a c) = a.alike ∙ same_kind m o q c
