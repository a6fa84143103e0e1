-- What a feature that has pointers is made of.
use Rattle.std.proofs.Common.{◌≡◌, ◌≢◌, ℕ, suc, List, [], ◌∷◌, length, Bool, true, false, subst, cond, refl, sym, ap, ◌∙◌, arith}
use Rattle.std.specs.Prelude.{◌&&◌, ◌||◌, ◌==◌, eqb, nat_lt}
use Rattle.std.specs.List.{list_all}
use Rattle.std.proofs.lemmas.Bool.{false≢true}
use Rattle.std.proofs.lemmas.Bool.Decides.{nat_tests}
use Rattle.chart_model.specs.Whole.{is_made}
use Rattle.s57_codes.specs.Catalogue.{prim_area, prim_line, prim_point, rcnm_connected_node, rcnm_edge, rcnm_isolated_node}
use Rattle.chart_model.specs.declared.records.Feature.{Feature}
use Rattle.chart_model.specs.declared.records.Pointer.{Pointer}

other : (prim : ℕ) → prim ≢ 255 → eqb prim 255 ≡ false
other prim h = grind (arith, nat_tests)

abbrev made_of : ℕ → List Pointer → Bool
made_of prim pointers =
    cond (eqb prim prim_point) (list_all (λ (p : Pointer). eqb p.rcnm rcnm_isolated_node || eqb p.rcnm rcnm_connected_node) pointers)
    ((eqb prim prim_line || eqb prim prim_area) && list_all (λ (p : Pointer). eqb p.rcnm rcnm_edge) pointers)

some : (n : ℕ) → nat_lt 0 (suc n) ≡ true
some n = grind (arith, nat_tests)

some_pointers : (prim : ℕ) (pointers : List Pointer) (others : Bool) → eqb prim 255 ≡ false → (length pointers == 0) ≡ false
    → made_of prim pointers ≡ cond (eqb prim 255) others (nat_lt 0 (length pointers) && made_of prim pointers)
some_pointers prim [] others is h = absurd (false≢true (sym h))
some_pointers prim (p ∷ ps) others is h = rw (is, some (length ps)) refl

-- a feature with pointers and a PRIM
pub with_pointers : (f : Feature) (pointers : List Pointer) (r : Bool) → pointers ≡ f.pointers → f.prim ≢ 255 → (length pointers == 0) ≡ false → r ≡ made_of f.prim pointers → r ≡ is_made f
with_pointers f pointers r e h there is =
    is ∙ ap (made_of f.prim) e ∙ some_pointers f.prim f.pointers (eqb (length f.pointers) 0) (other f.prim h) (subst (λ (ps : List Pointer). (length ps == 0) ≡ false) e there)
