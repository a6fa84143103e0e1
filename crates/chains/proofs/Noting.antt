use Rattle.std.proofs.Common.{◌≡◌, ℕ, suc, ◌+◌, ◌<◌, List, [], ◌∷◌, true, false, cond, length, get_or, set, refl, sym, ap, ◌∙◌, subst, ◌⊎◌, inl, inr, arith, eq-eqb, ne_eqb, get_or-set_other, get_or-set_same, length-set}
use Rattle.std.proofs.lemmas.Bool.{cases_eq}
use Rattle.chains.specs.declared.Line.{Line}
use Rattle.chains.specs.declared.Half.{Half}
use Rattle.chains.specs.declared.spots.Spot.{Spot}
use Rattle.chains.specs.declared.spots.Spot.TheVariants.{Empty, Two}
use Rattle.chains.specs.Nets.{line_at, begin_of, end_of, ends_at}
use Rattle.chains.specs.Tracing.{back, grown, leaving, spot_of, with_half, noted, Notes, GoesOn}
use Rattle.chains.proofs.Halves.{In, Distinct, half_of, leaving_only, leaving_once, length-leaving}

-- the note of one half more
with_half_is : (h : Half) (hs : List Half) → with_half h (spot_of hs) ≡ spot_of (h ∷ hs)
with_half_is h [] = refl
with_half_is h (a ∷ []) = refl
with_half_is h (a ∷ b ∷ []) = refl
with_half_is h (a ∷ b ∷ c ∷ hs) = refl

-- spots that note what halves begin at each point
abbrev pub NotesOf : ℕ → (ℕ → List Half) → List Spot → Type 0
NotesOf points f spots = (length spots ≡ points) × ((p : ℕ) → p < points → get_or spots p Empty ≡ spot_of (f p))

-- one half more is noted where it begins
half_noted : (points : ℕ) (f : ℕ → List Half) (spots : List Spot) (q : ℕ) (h : Half) → q < points → NotesOf points f spots → NotesOf points (λ p. grown q h p (f p)) (set spots q (with_half h (get_or spots q Empty)))
half_noted points f spots q h l n = (length-set spots q (with_half h (get_or spots q Empty)) ∙ n.0, λ p lp. go p lp (cases_eq q p))
  where
    go : (p : ℕ) → p < points → (q ≡ p) ⊎ (q ≡ p → ⊥) → get_or (set spots q (with_half h (get_or spots q Empty))) p Empty ≡ spot_of (grown q h p (f p))
    go p lp (inl e) =
        ap (λ z. get_or (set spots q (with_half h (get_or spots q Empty))) z Empty) (sym e)
        ∙ get_or-set_same spots q (with_half h (get_or spots q Empty)) Empty (omega (arith, n.0))
        ∙ ap (with_half h) (ap (λ z. get_or spots z Empty) e ∙ n.1 p lp)
        ∙ with_half_is h (f p)
        ∙ ap (λ b. spot_of (cond b (h ∷ f p) (f p))) (sym (eq-eqb q p e))
    go p lp (inr d) =
        get_or-set_other spots q p (with_half h (get_or spots q Empty)) Empty (λ e. d (sym e))
        ∙ n.1 p lp
        ∙ ap (λ b. spot_of (cond b (h ∷ f p) (f p))) (sym (ne_eqb q p d))

-- both halves of a line are noted, as the code does it
pub line_noted : (lines : List Line) (points i : ℕ) (spots spots1 spots2 : List Spot) → Notes lines points i spots → (line_at lines i).begin < points → (line_at lines i).end < points → (p q : ℕ) → p ≡ (line_at lines i).begin → q ≡ (line_at lines i).end → spots1 ≡ noted spots p (half_of i true) → spots2 ≡ noted spots1 q (half_of i false) → Notes lines points (i + 1) spots2
line_noted lines points i spots spots1 spots2 n lb le p q ep eq e1 e2 =
    let b = (line_at lines i).begin in
    let e = (line_at lines i).end in
    let x = half_noted points (leaving lines i) spots b (half_of i true) lb (n.wide, n.notes) in
    let s1 = e1 ∙ ap (λ z. noted spots z (half_of i true)) ep in
    let x1 = subst (NotesOf points (λ p. grown b (half_of i true) p (leaving lines i p))) (sym s1) x in
    let y = half_noted points (λ p. grown b (half_of i true) p (leaving lines i p)) spots1 e (half_of i false) le x1 in
    let s2 = e2 ∙ ap (λ z. noted spots1 z (half_of i false)) eq in
    let y1 = subst (NotesOf points (leaving lines (suc i))) (sym s2) y in
    let h : i + 1 ≡ suc i = omega arith in
    record { wide = y1.0; notes = λ p lp. y1.1 p lp ∙ ap (λ z. spot_of (leaving lines z p)) (sym h) }

-- a list of more or fewer than two is noted otherwise
two_noted : (hs : List Half) (a b : Half) → spot_of hs ≡ Two a b → hs ≡ a ∷ b ∷ []
two_noted [] a b e = cc
two_noted (x ∷ []) a b e = cc
two_noted (x ∷ y ∷ []) a b e = cc
two_noted (x ∷ y ∷ z ∷ hs) a b e = cc

noted_two : (hs : List Half) → length hs ≡ 2 → (a : Half) × (b : Half) × (spot_of hs ≡ Two a b)
noted_two [] e = absurd (omega arith)
noted_two (x ∷ []) e = absurd (omega arith)
noted_two (x ∷ y ∷ []) e = (x, y, refl)
noted_two (x ∷ y ∷ z ∷ hs) e = absurd (omega arith)

module _ (lines : List Line) (points : ℕ) (spots : List Spot) (n : Notes lines points (length lines) spots) (p : ℕ) (l : p < points) where
  here : get_or spots p Empty ≡ spot_of (leaving lines (length lines) p)
  here = n.notes p l

  -- where two halves are noted exactly two line ends lie
  pub two_ends : (a b : Half) → get_or spots p Empty ≡ Two a b → ends_at lines p ≡ 2
  two_ends a b e = sym (length-leaving lines p) ∙ ap length (two_noted (leaving lines (length lines) p) a b (sym here ∙ e))

  -- elsewhere not
  pub not_two_ends : ((a b : Half) → get_or spots p Empty ≡ Two a b → ⊥) → ends_at lines p ≡ 2 → ⊥
  not_two_ends d e = let w = noted_two (leaving lines (length lines) p) (length-leaving lines p ∙ e) in d w.0 w.1 (here ∙ w.2)

  -- both that are noted begin there, and differ
  pub both_begin : (a b : Half) → get_or spots p Empty ≡ Two a b → (a.line < length lines) × (begin_of lines a ≡ p) × (b.line < length lines) × (begin_of lines b ≡ p) × (a ≡ b → ⊥)
  both_begin a b e =
      let k = two_noted (leaving lines (length lines) p) a b (sym here ∙ e) in
      let x = leaving_only lines p (length lines) a (subst (In a) (sym k) (inl refl)) in
      let y = leaving_only lines p (length lines) b (subst (In b) (sym k) (inr (inl refl))) in
      let d = subst Distinct k (leaving_once lines p (length lines)) in
      (x.0, x.1, y.0, y.1, λ q. d.0 (inl q))

  -- of the two that are noted one goes on from a half that ends there: the one that isn't that half walked back
  pub second_goes_on : (a b h : Half) → get_or spots p Empty ≡ Two a b → end_of lines h ≡ p → a ≡ back h → GoesOn lines h b
  second_goes_on a b h e m q =
      let w = both_begin a b e in
      record { inside = w.2; meets = w.3 ∙ sym m; two = ap (ends_at lines) m ∙ two_ends a b e; turns = λ r. w.4 (q ∙ sym r) }

  pub first_goes_on : (a b h : Half) → get_or spots p Empty ≡ Two a b → end_of lines h ≡ p → (a ≡ back h → ⊥) → GoesOn lines h a
  first_goes_on a b h e m d =
      let w = both_begin a b e in
      record { inside = w.0; meets = w.1 ∙ sym m; two = ap (ends_at lines) m ∙ two_ends a b e; turns = d }
