-- What is read was written so.
use Rattle.std.proofs.Common.{◌≡◌, ℕ, ◌+◌, ◌^◌, ◌<◌, ◌≤◌, Bool, true, false, cond, ltb, eqb, List, [], ◌∷◌, ◌++◌, length, get_or, take, drop, Option, Some, None, refl, sym, ap, subst, ◌∙◌, arith, inl, inr}
use Rattle.std.specs.Prelude.{option_map, ◌⊎◌}
use Rattle.std.specs.Int.{w16, w32, from_le_bytes, to_le_bytes, cast_unsigned}
use Rattle.std.proofs.lemmas.Bool.{ltb-false, eqb-true}
use Rattle.std.proofs.lemmas.List.{take-append-drop, length-take, nil_from_length, get_or-take, get_or_past, get_or-append-add}
use Rattle.std.proofs.lemmas.Bool.{cases_lt}
use Rattle.std.proofs.lemmas.Int.{of_z-to_z}
use Rattle.std.proofs.lemmas.Nat.{le_bytes_2, le_bytes_4}
use Rattle.readings.specs.Finds.{◌>>=◌}
use Rattle.readings.proofs.Steps.{bind_some}
use Rattle.s57_records.specs.Formats.{Format, b11, b12, b14, b24, A, As, Value, N, Z, T, number_at, signed, text_at, longer, bytes_at, value_at, values_in, bytes_of, field_of}

abbrev pub IsBytes : List ℕ → Type 0
IsBytes bytes = (i : ℕ) → get_or bytes i 0 < 256

IsBytes-take : (n : ℕ) (bytes : List ℕ) → IsBytes bytes → IsBytes (take n bytes)
IsBytes-take n bytes h i =
    elim (cases_lt i n) [
      | inl lt ↦ rw (get_or-take n bytes i 0 lt) (h i)
      | inr le ↦ rw (get_or_past (take n bytes) i 0 (omega (arith, length-take n bytes))) (omega arith)
    ]

IsBytes-rest : (x rest bytes : List ℕ) → bytes ≡ x ++ rest → IsBytes bytes → IsBytes rest
IsBytes-rest x rest bytes e h i = rw (← get_or-append-add x rest i 0, ← e) (h (length x + i))

map_some : {X Y : Type 0} (f : X → Y) (r : Option X) (y : Y) → option_map f r ≡ Some y → (x : X) × (r ≡ Some x) × (f x ≡ y)
map_some f None y e = absurd cc
map_some f (Some x) y e = (x, refl, cc)

guard_some : {X : Type 0} (b : Bool) (x y : X) → cond b None (Some x) ≡ Some y → (b ≡ false) × (x ≡ y)
guard_some true x y e = absurd cc
guard_some false x y e = (refl, cc)

some_is : {X : Type 0} (x y : X) → Some x ≡ Some y → x ≡ y
some_is x y e = cc

number_2 : (bytes : List ℕ) (x : ℕ × List ℕ) → IsBytes bytes → number_at w16 bytes ≡ Some x → bytes ≡ to_le_bytes w16 x.0 ++ x.1
number_2 bytes x h e =
    let g = guard_some (ltb (length bytes) 2) (from_le_bytes w16 (take 2 bytes), drop 2 bytes) x e in
    let long : 2 ≤ length bytes = ltb-false _ _ g.0 in
    let front : to_le_bytes w16 (from_le_bytes w16 (take 2 bytes)) ≡ take 2 bytes = le_bytes_2 (take 2 bytes) _ (omega (arith, length-take 2 bytes)) (IsBytes-take 2 bytes h) refl in
    subst (λ (p : ℕ × List ℕ). bytes ≡ to_le_bytes w16 p.0 ++ p.1) g.1 (sym (ap (λ (t : List ℕ). t ++ drop 2 bytes) front ∙ take-append-drop 2 bytes))

number_4 : (bytes : List ℕ) (x : ℕ × List ℕ) → IsBytes bytes → number_at w32 bytes ≡ Some x → bytes ≡ to_le_bytes w32 x.0 ++ x.1
number_4 bytes x h e =
    let g = guard_some (ltb (length bytes) 4) (from_le_bytes w32 (take 4 bytes), drop 4 bytes) x e in
    let long : 4 ≤ length bytes = ltb-false _ _ g.0 in
    let front : to_le_bytes w32 (from_le_bytes w32 (take 4 bytes)) ≡ take 4 bytes = le_bytes_4 (take 4 bytes) _ (omega (arith, length-take 4 bytes)) (IsBytes-take 4 bytes h) refl in
    subst (λ (p : ℕ × List ℕ). bytes ≡ to_le_bytes w32 p.0 ++ p.1) g.1 (sym (ap (λ (t : List ℕ). t ++ drop 4 bytes) front ∙ take-append-drop 4 bytes))

small_4 : (bytes : List ℕ) (x : ℕ × List ℕ) → IsBytes bytes → number_at w32 bytes ≡ Some x → x.0 < 2 ^ 32
small_4 bytes x h e =
    let g = guard_some (ltb (length bytes) 4) (from_le_bytes w32 (take 4 bytes), drop 4 bytes) x e in
    let front = IsBytes-take 4 bytes h in
    let small : from_le_bytes w32 (take 4 bytes) < 2 ^ 32 = omega (arith, front 0, front 1, front 2, front 3) in
    subst (λ (p : ℕ × List ℕ). p.0 < 2 ^ 32) g.1 small

signed_back : (n : ℕ) → n < 2 ^ 32 → cast_unsigned w32 (signed n) ≡ n
unfolding signed
signed_back n h = of_z-to_z w32 n h

longer_some : (b : ℕ) (r : Option (List ℕ × List ℕ)) (x : List ℕ × List ℕ) → longer b r ≡ Some x → (y : List ℕ × List ℕ) × (r ≡ Some y) × ((b ∷ y.0, y.1) ≡ x)
longer_some b None x e = absurd cc
longer_some b (Some y) x e = (y, refl, some_is (b ∷ y.0, y.1) x e)

ends_or : (b : Bool) (x y : List ℕ × List ℕ) (r : Option (List ℕ × List ℕ)) → cond b (Some x) r ≡ Some y → ((b ≡ true) × (x ≡ y)) ⊎ ((b ≡ false) × (r ≡ Some y))
ends_or true x y r e = inl (refl, some_is x y e)
ends_or false x y r e = inr (refl, e)

text : (bytes : List ℕ) (x : List ℕ × List ℕ) → text_at bytes ≡ Some x → bytes ≡ x.0 ++ (31 ∷ []) ++ x.1
text [] x e = absurd cc
text (b ∷ bs) x e =
    elim (ends_or (eqb b 31) ([], bs) x (longer b (text_at bs)) e) [
      | inl p ↦ subst (λ (q : List ℕ × List ℕ). b ∷ bs ≡ q.0 ++ (31 ∷ []) ++ q.1) p.1 (ap (λ (n : ℕ). n ∷ bs) (eqb-true b 31 p.0))
      | inr p ↦ let l = longer_some b (text_at bs) x p.1 in subst (λ (q : List ℕ × List ℕ). b ∷ bs ≡ q.0 ++ (31 ∷ []) ++ q.1) l.2 (ap (λ (t : List ℕ). b ∷ t) (text bs l.0 l.1))
    ]

as_they_stand : (n : ℕ) (bytes : List ℕ) (x : List ℕ × List ℕ) → bytes_at n bytes ≡ Some x → bytes ≡ x.0 ++ x.1
as_they_stand n bytes x e =
    let g = guard_some (ltb (length bytes) n) (take n bytes, drop n bytes) x e in
    subst (λ (p : List ℕ × List ℕ). bytes ≡ p.0 ++ p.1) g.1 (sym (take-append-drop n bytes))

value : (f : Format) (bytes : List ℕ) (p : Value × List ℕ) → IsBytes bytes → value_at f bytes ≡ Some p → bytes ≡ bytes_of f p.0 ++ p.1
value b11 [] p h e = absurd cc
value b11 (b ∷ bs) p h e = subst (λ (q : Value × List ℕ). b ∷ bs ≡ bytes_of b11 q.0 ++ q.1) (some_is (N b, bs) p e) refl
value b12 bytes p h e =
    let m = map_some (λ (x : ℕ × List ℕ). (N x.0, x.1)) (number_at w16 bytes) p e in
    subst (λ (q : Value × List ℕ). bytes ≡ bytes_of b12 q.0 ++ q.1) m.2 (number_2 bytes m.0 h m.1)
value b14 bytes p h e =
    let m = map_some (λ (x : ℕ × List ℕ). (N x.0, x.1)) (number_at w32 bytes) p e in
    subst (λ (q : Value × List ℕ). bytes ≡ bytes_of b14 q.0 ++ q.1) m.2 (number_4 bytes m.0 h m.1)
value b24 bytes p h e =
    let m = map_some (λ (x : ℕ × List ℕ). (Z (signed x.0), x.1)) (number_at w32 bytes) p e in
    let back = signed_back m.0.0 (small_4 bytes m.0 h m.1) in
    subst (λ (q : Value × List ℕ). bytes ≡ bytes_of b24 q.0 ++ q.1) m.2 (number_4 bytes m.0 h m.1 ∙ ap (λ (n : ℕ). to_le_bytes w32 n ++ m.0.1) (sym back))
value A bytes p h e =
    let m = map_some (λ (x : List ℕ × List ℕ). (T x.0, x.1)) (text_at bytes) p e in
    subst (λ (q : Value × List ℕ). bytes ≡ bytes_of A q.0 ++ q.1) m.2 (text bytes m.0 m.1)
value (As n) bytes p h e =
    let m = map_some (λ (x : List ℕ × List ℕ). (T x.0, x.1)) (bytes_at n bytes) p e in
    subst (λ (q : Value × List ℕ). bytes ≡ bytes_of (As n) q.0 ++ q.1) m.2 (as_they_stand n bytes m.0 m.1)

end : (b : Bool) (vs : List Value) → cond b (Some []) None ≡ Some vs → (b ≡ true) × ([] ≡ vs)
end true vs e = (refl, cc)
end false vs e = absurd cc

pub is_written : (fs : List Format) (vs : List Value) (bytes : List ℕ) → IsBytes bytes → values_in fs bytes ≡ Some vs → bytes ≡ field_of fs vs
is_written [] vs bytes h e =
    let g = end (eqb (length bytes) 0) vs e in
    subst (λ (x : List Value). bytes ≡ field_of [] x) g.1 (nil_from_length bytes (eqb-true _ _ g.0))
is_written (f ∷ fs) vs bytes h e =
    let a = bind_some (value_at f bytes) (λ (x : Value × List ℕ). values_in fs x.1 >>= λ (others : List Value). Some (x.0 ∷ others)) vs e in
    let b = bind_some (values_in fs a.0.1) (λ (others : List Value). Some (a.0.0 ∷ others)) vs a.2 in
    let first = value f bytes a.0 h a.1 in
    let others = is_written fs b.0 a.0.1 (IsBytes-rest (bytes_of f a.0.0) a.0.1 bytes first h) b.1 in
    subst (λ (x : List Value). bytes ≡ field_of (f ∷ fs) x) (some_is (a.0.0 ∷ b.0) vs b.2) (first ∙ ap (λ (t : List ℕ). bytes_of f a.0.0 ++ t) others)
