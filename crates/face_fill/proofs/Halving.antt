-- Rectangles that are cut, one after another.
use Rattle.std.proofs.Common.{◌≡◌, ◌≢◌, ℕ, zero, suc, ◌+◌, ◌<◌, ⊎_elim, List, [], ◌∷◌, ◌++◌, length, set, refl, sym, ap, ◌∙◌, subst, arith}
use Rattle.std.proofs.lemmas.Bool.{cases_eq}
use Rattle.std.proofs.lemmas.List.{get_or-set_same, get_or-set_other, get_or_append_left, get_or_push, length_push, length-set}
use Rattle.mesh_definitions.specs.Blocks.{IsCut, IsReached, first_part, second_part}
use Rattle.mesh_definitions.specs.Blocks.IsReached.{First, Second, Whole}
use Rattle.mesh_definitions.specs.Field.{Field}
use Rattle.mesh_definitions.specs.Mesh.{all_cells}
use Rattle.mesh_definitions.specs.declared.Rect.{Rect}
use Rattle.tri_mesh.specs.Cells.{rect_in, cells}

-- all rectangles are reached, and the first n aren't cut
pub record AreCutUpTo (f : Field) (rects : List Rect) (n : ℕ) : Type 0 where
  pub reached : (k : ℕ) → k < length rects → IsReached f (rect_in rects k)
  pub kept : (k : ℕ) → k < n → ¬ (IsCut f (rect_in rects k))

module _ (f : Field) (rects new : List Rect) (n : ℕ) (l : n < length rects) (e : new ≡ set (rects ++ second_part (rect_in rects n) ∷ []) n (first_part (rect_in rects n))) where
  pub cut_length : length new ≡ length rects + 1
  cut_length = ap length e ∙ (length-set (rects ++ second_part (rect_in rects n) ∷ []) n (first_part (rect_in rects n)) ∙ length_push rects (second_part (rect_in rects n)))

  at_cut : rect_in new n ≡ first_part (rect_in rects n)
  at_cut = ap (λ rs. rect_in rs n) e ∙ get_or-set_same (rects ++ second_part (rect_in rects n) ∷ []) n (first_part (rect_in rects n)) (cells 0 0) (omega (arith, l, length_push rects (second_part (rect_in rects n))))

  at_end : rect_in new (length rects) ≡ second_part (rect_in rects n)
  at_end = ap (λ rs. rect_in rs (length rects)) e
      ∙ (get_or-set_other (rects ++ second_part (rect_in rects n) ∷ []) n (length rects) (first_part (rect_in rects n)) (cells 0 0) (let k : length rects ≢ n = omega (arith, l) in k)
      ∙ get_or_push rects (second_part (rect_in rects n)) (cells 0 0) (length rects) refl)

  at_other : (k : ℕ) → k < length rects → k ≢ n → rect_in new k ≡ rect_in rects k
  at_other k b d = ap (λ rs. rect_in rs k) e
      ∙ (get_or-set_other (rects ++ second_part (rect_in rects n) ∷ []) n k (first_part (rect_in rects n)) (cells 0 0) d
      ∙ get_or_append_left rects (second_part (rect_in rects n) ∷ []) (cells 0 0) k b)

  pub cut_more : AreCutUpTo f rects n → IsCut f (rect_in rects n) → AreCutUpTo f new n
  cut_more h c = record {
    reached = λ k b. ⊎_elim
        (λ s. subst (IsReached f) (sym (ap (rect_in new) s ∙ at_end)) (Second (h.reached n l) c))
        (λ d. ⊎_elim
        (λ s. subst (IsReached f) (sym (ap (rect_in new) s ∙ at_cut)) (First (h.reached n l) c))
        (λ o. let i : k < length rects = omega (arith, b, d, cut_length) in subst (IsReached f) (sym (at_other k i o)) (h.reached k i))
        (cases_eq k n))
        (cases_eq k (length rects));
    kept = λ k b i. h.kept k b (subst (IsCut f) (at_other k (omega (arith, b, l)) (let d : k ≢ n = omega (arith, b) in d)) i);
  }

pub kept_more : (f : Field) (rects : List Rect) (n : ℕ) → AreCutUpTo f rects n → ¬ (IsCut f (rect_in rects n)) → AreCutUpTo f rects (n + 1)
kept_more f rects n h c = record {
  reached = h.reached;
  kept = λ k b. ⊎_elim (λ s i. c (subst (λ k. IsCut f (rect_in rects k)) s i)) (λ d. h.kept k (omega (arith, b, d))) (cases_eq k n);
}

pub one_reached : (f : Field) (rects : List Rect) → rects ≡ all_cells f ∷ [] → AreCutUpTo f rects 0
one_reached f rects e = subst (λ rs. AreCutUpTo f rs 0) (sym e) (record {
  reached = λ k l. first k (omega (arith, l));
  kept = λ k l. absurd (omega (arith, l));
})
  where
    first : (k : ℕ) → k < 1 → IsReached f (rect_in (all_cells f ∷ []) k)
    first zero l = Whole
    first (suc k) l = absurd (omega (arith, l))
