-- A text as the chart says it and as a field says it.
use Rattle.std.proofs.Common.{◌≡◌, ◌≢◌, ℕ, Bool, true, false, List, [], ◌∷◌, eqb, refl}
use Rattle.std.specs.Prelude.{not}
use Rattle.std.specs.Bool.{IsTrue}
use Rattle.std.specs.List.{list_all}
use Rattle.std.proofs.lemmas.Bool.{eqb-true, and_from}
use Rattle.std.proofs.lemmas.List.Elements.{All-head, All-tail}
use Rattle.chart_model.specs.Whole.{IsText, HasTexts}
use Rattle.chart_model.specs.declared.records.Header.{Header}
use Rattle.s57_records.specs.Formats.{is_text}

not_end : (b : ℕ) → b ≢ 31 → not (eqb b 31) ≡ true
not_end b h = by_test (eqb b 31) refl
  where
    by_test : (t : Bool) → eqb b 31 ≡ t → not t ≡ true
    by_test false e = refl
    by_test true e = absurd (h (eqb-true b 31 e))

pub is_text_from : (text : List ℕ) → IsText text → IsTrue (is_text text)
is_text_from [] h = refl
is_text_from (b ∷ text) h = and_from (not (eqb b 31)) (is_text text) (not_end b (All-head (λ (x : ℕ). x ≢ 31) b text h)) (is_text_from text (All-tail (λ (x : ℕ). x ≢ 31) b text h))

pub all_texts : (h : Header) → HasTexts h → IsTrue (list_all is_text (h.dsnm ∷ h.edtn ∷ h.updn ∷ h.psdn ∷ h.pred ∷ h.comt ∷ []))
all_texts h t =
    and_from _ _ (is_text_from h.dsnm t.dsnm) (and_from _ _ (is_text_from h.edtn t.edtn) (and_from _ _ (is_text_from h.updn t.updn)
    (and_from _ _ (is_text_from h.psdn t.psdn) (and_from _ _ (is_text_from h.pred t.pred) (and_from _ _ (is_text_from h.comt t.comt) refl)))))
