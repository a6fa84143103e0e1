-- From each piece of a mesh a way leads to a step with the piece's number on its right alone: along the bands of a
-- triangle to the link that bounds it in the north, and over that link, until the number changes or the mesh ends.
use Rattle.std.proofs.Common.{◌≡◌, ℕ, zero, suc, ◌+◌, ◌-◌, ◌*◌, ◌<◌, ◌≤◌, ◌⊎◌, inl, inr, ⊎_elim, Bool, true, false, cond, Some, None, refl, sym, ap, ◌∙◌, subst, arith}
use Rattle.std.specs.Prelude.{Option, Contains, flat_map, map, option_map}
use Rattle.std.proofs.lemmas.Bool.{cases_eq, cases_lt}
use Rattle.std.proofs.lemmas.List.Elements.{Contains-append_right}
use Rattle.mesh_definitions.specs.Field.{Field}
use Rattle.mesh_definitions.specs.Mesh.{Walk, has_cell, links, surveyed, tris}
use Rattle.mesh_definitions.specs.Pieces.{Mesh, chord_levels, greatest_band, least_band, left_of, mesh_of, part_bands, piece_at}
use Rattle.mesh_definitions.specs.declared.Link.{Link}
use Rattle.mesh_definitions.specs.declared.Piece.{Piece}
use Rattle.mesh_definitions.specs.declared.Rect.{Rect}
use Rattle.mesh_definitions.specs.declared.Step.{Step}
use Rattle.mesh_definitions.specs.declared.Sub.TheVariants.{Part, Chord}
use Rattle.mesh_definitions.specs.declared.Tri.{Tri}
use Rattle.mesh_definitions.specs.declared.Way.TheVariants.{Across, Slant}
use Rattle.mesh_definitions.specs.declared.Way.{Way}
use Rattle.face_fill.specs.Ends.{count_surveyed, count_unsurveyed, in_span, leg_ends, part_of, passes_within, some_part}
use Rattle.face_fill.specs.Legs.{beyond_is_leg, right_of_leg}
use Rattle.face_fill.specs.Listed.{InMesh, in_parts, in_tris, leg_in}
use Rattle.face_fill.specs.Listing.{in_flat_map, in_map}
use Rattle.face_fill.specs.Items.{beyond, leg, piece_by, tri_of}

-- a step of a mesh with the number k on its right, and not on its left
pub record Bounds (m : Mesh) (number : Piece → ℕ) (k : ℕ) : Type 0 where
  pub step : Step
  pub there : Contains m.subs step.sub
  pub right : option_map number (m.right_of step) ≡ Some k
  pub left : option_map number (left_of m step) ≡ Some k → ⊥

-- ---- the leg that bounds a triangle in the north, and what lies beyond it

abbrev pub northern : Tri → Way
northern t = cond t.upper Across Slant

-- a triangle's place from the north: in a row of cells the upper ones come first
abbrev pub rank : Tri → ℕ
rank t = 2 * t.row + cond t.upper 0 1

in_cell : (r : Rect) (i j : ℕ) (u : Bool) (t : Tri) → cond (has_cell r i j) (Some (tri_of i j u)) None ≡ Some t → tri_of i j u ≡ t
in_cell r i j u t e = by (has_cell r i j) e
  where
    by : (b : Bool) → cond b (Some (tri_of i j u)) None ≡ Some t → tri_of i j u ≡ t
    by true g = cc (g)
    by false g = cc (g)

-- beyond that leg lies the triangle with the place before
pub northward : (r : Rect) (t u : Tri) → beyond r t (northern t) ≡ Some u → rank t ≡ rank u + 1
northward r t u e = by t.row t.col t.upper e
  where
    by : (i j : ℕ) (upper : Bool) → beyond r (tri_of i j upper) (northern (tri_of i j upper)) ≡ Some u → rank (tri_of i j upper) ≡ rank u + 1
    by zero j true g = cc (g)
    by (suc i) j true g = let h = ap rank (in_cell r i j false u g) in omega (arith, h)
    by i j false g = let h = ap rank (in_cell r i j true u g) in omega (arith, h)

-- ---- pieces of triangles

module _ (f : Field) (r : Rect) where
  -- the piece of an unsurveyed triangle has band 0, and bands of a surveyed triangle's pieces lie between its ends
  pub unsurveyed_band : (p : Piece) → InMesh f r p → surveyed f p.tri ≡ false → p.band ≡ 0
  unsurveyed_band p h e = let c = count_unsurveyed f p.tri e in omega (arith, h.low, h.high, c.0, c.1)

  pub surveyed_band : (p : Piece) → InMesh f r p → surveyed f p.tri ≡ true → (least_band f p.tri ≤ p.band) × (p.band ≤ greatest_band f p.tri)
  surveyed_band p h e = let c = count_surveyed f p.tri e in (omega (arith, h.low, h.high, c.0, c.1), omega (arith, h.low, h.high, c.0, c.1))

  -- the bands of the parts of a surveyed triangle's legs are among its own
  pub part_within : (t : Tri) (j : Way) (b : ℕ) → surveyed f t ≡ true → Contains (part_bands f (leg t j).link) b → (least_band f t ≤ b) × (b ≤ greatest_band f t)
  part_within t j b e c = let ends = leg_ends f t e j in passes_within f t (leg t j).link b ends (part_of f t (leg t j).link b ends c)

  -- a triangle has a piece at each part of its legs
  pub at_part : (t : Tri) (j : Way) (b : ℕ) → has_cell r t.row t.col ≡ true → Contains (part_bands f (leg t j).link) b → InMesh f r (piece_at f b t)
  at_part t j b h c = by (surveyed f t) refl
    where
      by : (s : Bool) → surveyed f t ≡ s → InMesh f r (piece_by t (cond s b 0))
      by true e =
          let within = part_within t j b e c in
          let n = count_surveyed f t e in
          record { cell = h; low = omega (arith, n.0, within.0); high = omega (arith, n.0, n.1, within.0, within.1) }
      by false e = let n = count_unsurveyed f t e in record { cell = h; low = omega (arith, n.0); high = omega (arith, n.0, n.1) }

  -- so has the triangle on its other side
  pub at_other : (t u : Tri) (j : Way) (b : ℕ) → beyond r t j ≡ Some u → Contains (part_bands f (leg t j).link) b → InMesh f r (piece_at f b u)
  at_other t u j b e c =
      let l = beyond_is_leg r t u j e in
      let link : (leg t j).link ≡ (leg u l.way).link = sym (ap (λ (w : Walk). w.link) l.is) in
      at_part u l.way b l.inside (subst (λ (x : Link). Contains (part_bands f x) b) link c)

  pub in_chords : (block : ℕ → ℕ → ℕ) (t : Tri) (k : ℕ) → has_cell r t.row t.col ≡ true → surveyed f t ≡ true → least_band f t < k → k ≤ greatest_band f t → Contains (mesh_of f r block).subs (Chord t k)
  in_chords block t k c e l h =
      let level : Contains (chord_levels f t) k = rw e (in_span (least_band f t + 1) (greatest_band f t) k (omega (arith, l)) h) in
      Contains-append_right (flat_map (λ l. map (Part l) (part_bands f l)) (links r)) (flat_map (λ t. map (Chord t) (chord_levels f t)) (tris r)) (Chord t k)
      (in_flat_map (λ t. map (Chord t) (chord_levels f t)) (tris r) t (Chord t k) (in_tris r t c) (in_map (Chord t) (chord_levels f t) k level))

  module _ (block : ℕ → ℕ → ℕ) (number : Piece → ℕ) (k : ℕ) where
    abbrev pub Found : Type 0
    Found = Bounds (mesh_of f r block) number k

    -- ---- along the bands of a triangle

    module _ (t : Tri) (cell : has_cell r t.row t.col ≡ true) (known : surveyed f t ≡ true) where
      -- from a band to a deeper one: the number changes at a chord, or it is the same there
      deeper : (n b c : ℕ) → b + n ≡ c → least_band f t ≤ b → c ≤ greatest_band f t → number (piece_by t b) ≡ k → Found ⊎ (number (piece_by t c) ≡ k)
      deeper zero b c e l h p = let s : b ≡ c = omega (arith, e) in inr (subst (λ x. number (piece_by t x) ≡ k) s p)
      deeper (suc n) b c e l h p = ⊎_elim
          (λ same. deeper n (b + 1) c (omega (arith, e)) (omega (arith, l)) h same)
          (λ other. inl (record {
            step = record { sub = Chord t (b + 1); forward = false };
            there = in_chords block t (b + 1) cell known (omega (arith, l)) (omega (arith, e, h));
            right = let s : b + 1 - 1 ≡ b = omega arith in ap (λ x. Some (number (piece_by t x))) s ∙ ap Some p;
            left = λ q. other (cc (q));
          }))
          (cases_eq (number (piece_by t (b + 1))) k)

      -- and to a shoaler one
      shoaler : (n b c : ℕ) → c + n ≡ b → least_band f t ≤ c → b ≤ greatest_band f t → number (piece_by t b) ≡ k → Found ⊎ (number (piece_by t c) ≡ k)
      shoaler zero b c e l h p = let s : b ≡ c = omega (arith, e) in inr (subst (λ x. number (piece_by t x) ≡ k) s p)
      shoaler (suc n) b c e l h p = ⊎_elim
          (λ same. shoaler n (b - 1) c (omega (arith, e)) l (omega (arith, h)) same)
          (λ other. inl (record {
            step = record { sub = Chord t b; forward = true };
            there = in_chords block t b cell known (omega (arith, e, l)) h;
            right = ap Some p;
            left = λ q. other (cc (q));
          }))
          (cases_eq (number (piece_by t (b - 1))) k)

      along_bands : (b c : ℕ) → (least_band f t ≤ b) × (b ≤ greatest_band f t) → (least_band f t ≤ c) × (c ≤ greatest_band f t) → number (piece_by t b) ≡ k → Found ⊎ (number (piece_by t c) ≡ k)
      along_bands b c x y p = ⊎_elim
          (λ l. deeper (c - b) b c (omega (arith, l)) x.0 y.1 p)
          (λ l. shoaler (b - c) b c (omega (arith, l)) y.0 x.1 p)
          (cases_lt b c)

    -- from a piece to the piece of its triangle at a part of a leg
    pub to_leg : (p : Piece) (j : Way) (c : ℕ) → InMesh f r p → Contains (part_bands f (leg p.tri j).link) c → number p ≡ k → Found ⊎ (number (piece_at f c p.tri) ≡ k)
    to_leg p j c h part e = by (surveyed f p.tri) refl
      where
        by : (s : Bool) → surveyed f p.tri ≡ s → Found ⊎ (number (piece_by p.tri (cond s c 0)) ≡ k)
        by true known = along_bands p.tri h.cell known p.band c (surveyed_band p h known) (part_within p.tri j c known part) e
        by false known = let s = unsurveyed_band p h known in inr (ap (λ b. number (piece_by p.tri b)) (sym s) ∙ e)

    -- ---- over a leg

    -- the triangle on the other side of a leg, with the number there
    record Passed (t : Tri) (j : Way) (b : ℕ) : Type 0 where
      pub tri : Tri
      pub there : beyond r t j ≡ Some tri
      pub same : number (piece_at f b tri) ≡ k

    over_leg : (t : Tri) (j : Way) (b : ℕ) → has_cell r t.row t.col ≡ true → Contains (part_bands f (leg t j).link) b → number (piece_at f b t) ≡ k → Found ⊎ Passed t j b
    over_leg t j b h c e = by (beyond r t j) refl
      where
        bounds : (option_map number (option_map (piece_at f b) (beyond r t j)) ≡ Some k → ⊥) → Found
        bounds none = record {
          step = record { sub = Part (leg t j).link b; forward = (leg t j).forward };
          there = in_parts f r block (leg t j).link b (leg_in r t h j) c;
          right = ap (λ o. option_map number (option_map (piece_at f b) o)) (right_of_leg r t h j) ∙ ap Some e;
          left = none;
        }

        some : (u : Tri) → beyond r t j ≡ Some u → Found ⊎ Passed t j b
        some u g = ⊎_elim
            (λ s. inr (record { tri = u; there = g; same = s }))
            (λ n. inl (bounds (λ q. let w : Some (number (piece_at f b u)) ≡ Some k = sym (ap (λ o. option_map number (option_map (piece_at f b) o)) g) ∙ q in n (cc (w)))))
            (cases_eq (number (piece_at f b u)) k)

        by : (o : Option Tri) → beyond r t j ≡ o → Found ⊎ Passed t j b
        by None g = inl (bounds (λ q. let w : None ≡ Some k = sym (ap (λ o. option_map number (option_map (piece_at f b) o)) g) ∙ q in cc (w)))
        by (Some u) g = some u g

    -- ---- the whole way

    way_on : (n : ℕ) (p : Piece) → InMesh f r p → number p ≡ k → rank p.tri < n → Found
    way_on zero p h e l = absurd (omega (arith, l))
    way_on (suc n) p h e l =
        let j = northern p.tri in
        let s = some_part f (leg p.tri j).link in
        ⊎_elim
        (λ found. found)
        (λ here. ⊎_elim
        (λ found. found)
        (λ passed. let before = northward r p.tri passed.tri passed.there in
        way_on n (piece_at f s.0 passed.tri) (at_other p.tri passed.tri j s.0 passed.there s.1) passed.same (omega (arith, before, l)))
        (over_leg p.tri j s.0 h.cell s.1 here))
        (to_leg p j s.0 h s.1 e)

    -- where a piece has the number k, a step has it on its right alone
    pub found_from : (p : Piece) → InMesh f r p → number p ≡ k → Found
    found_from p h e = way_on (rank p.tri + 1) p h e (omega arith)
