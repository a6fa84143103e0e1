-- The chart made by hand keeps the conditions of parts.
use Rattle.std.proofs.Common.{◌≡◌, ℕ, true, List, [], ◌∷◌, refl, arith, rules, eqb, sym, ap, ◌∙◌}
use Rattle.std.specs.Prelude.{codes, All, IsTrue, ◌≢◌, not}
use Rattle.std.proofs.lemmas.Bool.{false≢true, eq-eqb, and_parts}
use Rattle.std.proofs.lemmas.List.Elements.{All-from_recursion, All-cons}
use Rattle.std.specs.List.{list_all}
use Rattle.chart_model.specs.Whole.{IsText, IsWellFormed, has_some, is_made}
use Rattle.chart_model.specs.declared.records.Attribute.{Attribute}
use Rattle.chart_model.specs.declared.records.Feature.{Feature}
use Rattle.tests_cells.specs.ByHand.{header, coverage, depth_area, sounding, isolated, square}

text_of : (bytes : List ℕ) → list_all (λ b. not (eqb b 31)) bytes ≡ true → IsText bytes
text_of [] h = λ k d l. absurd (omega arith)
text_of (b ∷ bs) h = All-cons (λ (b : ℕ). b ≢ 31) b bs (λ e. false≢true (sym (ap not (eq-eqb b 31 e)) ∙ (and_parts (not (eqb b 31)) (list_all (λ c. not (eqb c 31)) bs) h).0)) (text_of bs (and_parts (not (eqb b 31)) (list_all (λ c. not (eqb c 31)) bs) h).1)

pub well_formed : IsWellFormed square
unfolding square
well_formed = record {
  header = record { dsnm = text_of header.dsnm refl; edtn = text_of header.edtn refl; updn = text_of header.updn refl; psdn = text_of [] refl; pred = text_of header.pred refl; comt = text_of [] refl; note = text_of [] refl };
  attributes = All-from_recursion (λ (f : Feature). All (λ (a : Attribute). IsText a.text) f.attributes) (coverage ∷ depth_area ∷ sounding ∷ []) (
    All-from_recursion (λ (a : Attribute). IsText a.text) coverage.attributes (text_of (codes "1") refl, tt),
    (
      All-from_recursion (λ (a : Attribute). IsText a.text) depth_area.attributes (text_of (codes "10") refl, (text_of (codes "10.1") refl, tt)),
      ((λ k d h. absurd (omega arith)), tt),
    ),
  );
  soundings = All-from_recursion (λ n. IsTrue (has_some n)) isolated (search rules);
  made = All-from_recursion (λ n. IsTrue (is_made n)) (coverage ∷ depth_area ∷ sounding ∷ []) (search rules);
  few_isolated = omega arith;
  few_connected = omega arith;
  few_edges = omega arith;
  few_features = omega arith;
}
