-- What is so of a leg is what is computed.
use Rattle.std.proofs.Common.{◌≡◌, ℕ, ◌<◌, ◌≤◌, Bool, true, false, not, ◌&&◌, cond, Some, None, List, [], ◌∷◌, length, get_or, ltb, refl, sym, ◌∙◌, ap, ap₂, inl, inr, arith}
use Rattle.std.proofs.lemmas.Bool.{lt-ltb, le-ltb, true≢false}
use Rattle.std.proofs.lemmas.List.{append-nil}
use Rattle.std.proofs.lemmas.List.Folds.{list_any_at, Any-from_list_any}
use Rattle.std.proofs.lemmas.List.Sums.{position_or_len_is}
use Rattle.std.proofs.lemmas.Option.{slice_get-get_or, slice_get_within, get_or_from_slice_get}
use Rattle.std.specs.List.{flat_map, list_any, position, position_or_len}
use Rattle.std.specs.Option.{option_to_list}
use Rattle.chart_model.specs.Lines.{area_segments}
use Rattle.chart_model.specs.declared.records.Feature.{Feature}
use Rattle.chart_model.specs.declared.records.Parts.{Parts}
use Rattle.exact_num.specs.Number.{Number}
use Rattle.plane_geom.specs.Geom.{odd_of}
use Rattle.plane_geom.specs.declared.Seg.{Seg}
use Rattle.plane_strips.specs.LegLaws.{MeetWhereNotApart}
use Rattle.plane_strips.specs.Legs.{are_apart}
use Rattle.plane_strips.specs.Rational.{Meet}
use Rattle.plane_strips.specs.RationalLaws.{OnAtWhole}
use Rattle.route_check.proofs.Clearing.{met_there, placed}
use Rattle.route_check.specs.Answer.{is_around, is_met, leg_of, meets, segments_at}
use Rattle.route_check.specs.Legs.{IsInsideAt, IsLeg, IsMetAt, IsMetNowhere, IsNoLater, IsUnsafeAt}
use Rattle.route_check.specs.Unsafe.{is_unsafe}
use Rattle.route_check.specs.declared.answer.Leg.TheVariants.{Clear, Inside, Touched}
use Rattle.route_check.specs.declared.answer.Leg.{Leg}

-- ---- the first that passes

position_is : {X : Type 0} (p : X → Bool) (xs : List X) (i : ℕ) (d : X) → i < length xs → ((k : ℕ) → k < i → p (get_or xs k d) ≡ false) → p (get_or xs i d) ≡ true → position p xs ≡ Some i
position_is p xs i d h before here =
    let at : position_or_len p xs ≡ i = position_or_len_is p xs i d (omega (arith, h)) before (λ _. here) in
    ap (λ n. cond (ltb n (length xs)) (Some n) None) at ∙ ap (λ b. cond b (Some i) None) (lt-ltb i (length xs) h)

position_none : {X : Type 0} (p : X → Bool) (xs : List X) → ((k : ℕ) (d : X) → k < length xs → p (get_or xs k d) ≡ false) → position p xs ≡ None
position_none p [] h = refl
position_none p (x ∷ xs) h =
    let n : ℕ = length (x ∷ xs) in
    let at : position_or_len p (x ∷ xs) ≡ n = position_or_len_is p (x ∷ xs) n x (own n) (λ k b. h k x b) (λ b. absurd (below n b)) in
    ap (λ m. cond (ltb m (length (x ∷ xs))) (Some m) None) at ∙ ap (λ b. cond b (Some n) None) (le-ltb n n (own n))
  where
    own : (n : ℕ) → n ≤ n
    own n = omega arith

    below : (n : ℕ) → n < n → ⊥
    below n b = omega (arith, b)

never : (b : Bool) → (b ≡ true → ⊥) → b ≡ false
never true h = absurd (h refl)
never false h = refl

both : (a b : Bool) → (a && b) ≡ true → (a ≡ true) × (b ≡ true)
both true b h = (refl, h)
both false b h = absurd (true≢false (sym h))

-- ---- what is computed of a leg

module _ (law : MeetWhereNotApart) (on : OnAtWhole) (c : Parts) (depth : Number) (leg : Seg) where
  meets_true : (s : Seg) → Meet leg s → meets leg s ≡ true
  meets_true s m = ap not ((law leg s).0 m)

  meets_back : (s : Seg) → meets leg s ≡ true → Meet leg s
  meets_back s h = (law leg s).1 (apart (are_apart leg s) h)
    where
      apart : (b : Bool) → not b ≡ true → b ≡ false
      apart true h = sym h
      apart false h = refl

  -- a feature that passes is at its place
  unsafe_at : (f : ℕ) (d : Feature) → f < length c.features → is_unsafe depth (get_or c.features f d) ≡ true → IsUnsafeAt c depth f (get_or c.features f d)
  unsafe_at f d h u = record { at = slice_get-get_or c.features f d h; unsafe = u }

  met_at : (f : ℕ) (d : Feature) → f < length c.features → is_met c depth leg (get_or c.features f d) ≡ true → (k : ℕ) × IsMetAt c depth leg f k
  met_at f d h e =
      let b = both (is_unsafe depth (get_or c.features f d)) (list_any (meets leg) (area_segments c (get_or c.features f d))) e in
      let s = Any-from_list_any (meets leg) (area_segments c (get_or c.features f d)) b.1 in
      let p = placed (area_segments c (get_or c.features f d)) s.1 leg (s.0, s.2, s.3) (meets_back s.1 s.4) in
      (p.0, record { area = get_or c.features f d; at = unsafe_at f d h b.0; met = p.1 })

  inside_at : IsMetNowhere c depth leg → (f : ℕ) (d : Feature) → f < length c.features → is_around c depth leg.a (get_or c.features f d) ≡ true → IsInsideAt c depth leg.a f
  inside_at nowhere f d h e =
      let b = both (is_unsafe depth (get_or c.features f d)) (odd_of (area_segments c (get_or c.features f d)) leg.a) e in
      let u = unsafe_at f d h b.0 in
      record {
        area = get_or c.features f d;
        at = u;
        inside = record {
          off = λ o. (let p = placed (area_segments c (get_or c.features f d)) o.segment leg o.there (met_there on leg o.segment o.on) in nowhere f p.0 (record { area = get_or c.features f d; at = u; met = p.1 }));
          odd = b.1;
        };
      }

  -- an area that is met passes
  is_met_true : (f k : ℕ) (m : IsMetAt c depth leg f k) → is_met c depth leg (get_or c.features f m.area) ≡ true
  is_met_true f k m =
      let met : list_any (meets leg) (area_segments c m.area) ≡ true = list_any_at (meets leg) (area_segments c m.area) k m.met.segment (slice_get_within (area_segments c m.area) k m.met.segment m.met.at) (ap (meets leg) (get_or_from_slice_get (area_segments c m.area) k m.met.segment m.met.segment m.met.at) ∙ meets_true m.met.segment m.met.meets) in
      ap (is_met c depth leg) (get_or_from_slice_get c.features f m.area m.area m.at.at) ∙ ap₂ (λ a b. a && b) m.at.unsafe met

  is_around_true : (f : ℕ) (m : IsInsideAt c depth leg.a f) → is_around c depth leg.a (get_or c.features f m.area) ≡ true
  is_around_true f m = ap (is_around c depth leg.a) (get_or_from_slice_get c.features f m.area m.area m.at.at) ∙ ap₂ (λ a b. a && b) m.at.unsafe m.inside.odd

  met_first : (f k : ℕ) → IsLeg c depth leg (Touched f k) → position (is_met c depth leg) c.features ≡ Some f
  met_first f k a = position_is (is_met c depth leg) c.features f a.met.area (slice_get_within c.features f a.met.area a.met.at.at)
      (λ g b. never _ (λ e. let m = met_at g a.met.area (omega (arith, b, slice_get_within c.features f a.met.area a.met.at.at)) e in later g m.0 b (a.first g m.0 m.1)))
      (is_met_true f k a.met)
    where
      later : (g j : ℕ) → g < f → IsNoLater f k g j → ⊥
      later g j b (inl h) = omega (arith, b, h)
      later g j b (inr h) = omega (arith, b, h.0)

  segment_first : (f k : ℕ) → IsLeg c depth leg (Touched f k) → position_or_len (meets leg) (segments_at c f) ≡ k
  segment_first f k a =
      let area : Feature = a.met.area in
      let m = a.met.met in
      let segs : segments_at c f ≡ area_segments c area = ap (λ o. flat_map (area_segments c) (option_to_list o)) a.met.at.at ∙ append-nil (area_segments c area) in
      let within : k < length (area_segments c area) = slice_get_within (area_segments c area) k m.segment m.at in
      ap (position_or_len (meets leg)) segs ∙ position_or_len_is (meets leg) (area_segments c area) k m.segment (omega (arith, within))
      (λ j b. never _ (λ e. let h : j < length (area_segments c area) = omega (arith, b, within) in earlier j b (a.first f j (record { area = area; at = a.met.at; met = record { segment = get_or (area_segments c area) j m.segment; at = slice_get-get_or (area_segments c area) j m.segment h; meets = meets_back _ e } }))))
      (λ _. ap (meets leg) (get_or_from_slice_get (area_segments c area) k m.segment m.segment m.at) ∙ meets_true m.segment m.meets)
    where
      earlier : (j : ℕ) → j < k → IsNoLater f k f j → ⊥
      earlier j b (inl h) = omega (arith, h)
      earlier j b (inr h) = omega (arith, b, h.1)

  met_never : IsMetNowhere c depth leg → position (is_met c depth leg) c.features ≡ None
  met_never nowhere = position_none (is_met c depth leg) c.features (λ g d b. never _ (λ e. let m = met_at g d b e in nowhere g m.0 m.1))

  inside_first : (f : ℕ) → IsLeg c depth leg (Inside f) → position (is_around c depth leg.a) c.features ≡ Some f
  inside_first f a = position_is (is_around c depth leg.a) c.features f a.inside.area (slice_get_within c.features f a.inside.area a.inside.at.at)
      (λ g b. never _ (λ e. before g b (a.first g (inside_at a.nowhere g a.inside.area (omega (arith, b, slice_get_within c.features f a.inside.area a.inside.at.at)) e))))
      (is_around_true f a.inside)
    where
      before : (g : ℕ) → g < f → f ≤ g → ⊥
      before g b h = omega (arith, b, h)

  inside_never : IsLeg c depth leg Clear → position (is_around c depth leg.a) c.features ≡ None
  inside_never a = position_none (is_around c depth leg.a) c.features (λ g d b. never _ (λ e. a.outside g (inside_at a.nowhere g d b e)))

  pub as_computed : (x : Leg) → IsLeg c depth leg x → x ≡ leg_of c depth leg
  unfolding leg_of
  as_computed (Touched f k) a = rw (met_first f k a) (ap (Touched f) (sym (segment_first f k a)))
  as_computed (Inside f) a = rw (met_never a.nowhere, inside_first f a) refl
  as_computed Clear a = rw (met_never a.nowhere, inside_never a) refl
