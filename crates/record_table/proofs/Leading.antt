-- Numbers lead to their records after each change of the slots.
use Rattle.std.proofs.Common.{◌≡◌, ◌≢◌, ℕ, ◌<◌, cond, Option, Some, None, List, [], ◌∷◌, ◌++◌, length, map, filter, set, get_or, refl, sym, ap, ◌∙◌, ⊎_elim, arith, get_or-set_other, get_or-set_same, length-append}
use Rattle.std.proofs.lemmas.List.{get_or_push, get_or_append_left}
use Rattle.std.specs.Prelude.{not, find, option_map}
use Rattle.std.proofs.lemmas.Bool.{eq-eqb, ne_eqb, cases_eq}
use Rattle.std.specs.Cmp.{unsigned_tied}
use Rattle.std.specs.BTreeMap.{is_at}
use Rattle.std.specs.Ordering.{nat_cmp}
use Rattle.record_table.specs.Records.{is_numbered}
use Rattle.record_table.specs.Slots.{records_in, number_at, Leads}
use Rattle.record_table.proofs.Written.{IsNowhere, IsOnlyAt, slot_inside, found_nowhere, found_there, removed_nowhere, removed_there, replaced_nowhere, replaced_there}

-- a map after a change at the number n: there it has w
pub tells_at : (place later : ℕ → Option ℕ) (n : ℕ) (w : Option ℕ) → ((q : ℕ) → later q ≡ cond (is_at (nat_cmp n) q) w (place q)) → later n ≡ w
tells_at place later n w h = h n ∙ ap (λ b. cond b w (place n)) (unsigned_tied n n ∙ eq-eqb n n refl)

pub tells_beside : (place later : ℕ → Option ℕ) (n : ℕ) (w : Option ℕ) → ((q : ℕ) → later q ≡ cond (is_at (nat_cmp n) q) w (place q)) → (q : ℕ) → (n ≡ q → ⊥) → later q ≡ place q
tells_beside place later n w h q other = h q ∙ ap (λ b. cond b w (place q)) (unsigned_tied n q ∙ ne_eqb n q other)

module _ {X : Type 0} (number : X → ℕ) where
  pub leads_in_none : (place : ℕ → Option ℕ) → ((q : ℕ) → place q ≡ None) → Leads number [] place
  leads_in_none place none = record {
    right = λ n p e. let no = none n in cc;
    whole = λ n p e. cc;
  }

  module _ (slots : List (Option X)) (place : ℕ → Option ℕ) (leads : Leads number slots place) where
    pub stands_nowhere : (n : ℕ) → place n ≡ None → IsNowhere number n slots
    stands_nowhere n none q e = let there = leads.whole n q e in cc

    pub stands_only : (n p : ℕ) → place n ≡ Some p → IsOnlyAt number n slots p
    stands_only n p is q e = let there = leads.whole n q e in cc

    pub leads_inside : (n p : ℕ) → place n ≡ Some p → p < length slots
    leads_inside n p is = slot_inside number n slots p (leads.right n p is)

    -- ---- what the list says of a number, by where it leads

    pub finds_nothing : (n : ℕ) → place n ≡ None → find (is_numbered number n) (records_in slots) ≡ None
    finds_nothing n none = found_nowhere number n slots (stands_nowhere n none)

    pub finds_record : (n p : ℕ) → place n ≡ Some p → find (is_numbered number n) (records_in slots) ≡ get_or slots p None
    finds_record n p is = found_there number n slots p (leads.right n p is) (stands_only n p is)

    pub removes_nothing : (n : ℕ) → place n ≡ None → records_in slots ≡ filter (λ x. not (is_numbered number n x)) (records_in slots)
    removes_nothing n none = removed_nowhere number n slots (stands_nowhere n none)

    pub removes_record : (n p : ℕ) → place n ≡ Some p → records_in (set slots p None) ≡ filter (λ x. not (is_numbered number n x)) (records_in slots)
    removes_record n p is = removed_there number n slots p (leads.right n p is) (stands_only n p is)

    pub replaces_nothing : (x : X) → place (number x) ≡ None → records_in slots ≡ map (λ y. cond (is_numbered number (number x) y) x y) (records_in slots)
    replaces_nothing x none = replaced_nowhere number (number x) x slots (stands_nowhere (number x) none)

    pub replaces_record : (x : X) (p : ℕ) → place (number x) ≡ Some p → records_in (set slots p (Some x)) ≡ map (λ y. cond (is_numbered number (number x) y) x y) (records_in slots)
    replaces_record x p is = replaced_there number (number x) x slots p (leads.right (number x) p is) (stands_only (number x) p is)

    -- a number that no record has leads nowhere
    pub leads_nowhere : (n : ℕ) → find (is_numbered number n) (records_in slots) ≡ None → place n ≡ None
    leads_nowhere n none = by_place (place n) refl
      where
        by_place : (o : Option ℕ) → place n ≡ o → place n ≡ None
        by_place None e = e
        by_place (Some p) e =
            let is = leads.right n p e in
            let same = finds_record n p e in
            let empty : number_at number slots p ≡ None = ap (option_map number) (sym same ∙ none) in
            cc

    module _ (later : ℕ → Option ℕ) where
      -- after a record was taken out
      pub leads_removed : (n p : ℕ) → place n ≡ Some p → ((q : ℕ) → later q ≡ cond (is_at (nat_cmp n) q) None (place q)) → Leads number (set slots p None) later
      leads_removed n p is h = record { right = right; whole = whole }
        where
          there : number_at number slots p ≡ Some n
          there = leads.right n p is

          right : (m q : ℕ) → later m ≡ Some q → number_at number (set slots p None) q ≡ Some m
          right m q e =
              let apart : n ≡ m → ⊥ = λ s. let no : later m ≡ None = ap later (sym s) ∙ tells_at place later n None h in cc in
              let stood = leads.right m q (sym (tells_beside place later n None h m apart) ∙ e) in
              let other : q ≢ p = λ s. let two : Some n ≡ Some m = sym there ∙ ap (number_at number slots) (sym s) ∙ stood in apart (cc) in
              ap (option_map number) (get_or-set_other slots p q None None other) ∙ stood

          whole : (m q : ℕ) → number_at number (set slots p None) q ≡ Some m → later m ≡ Some q
          whole m q e =
              let other : q ≢ p = λ s. let no : number_at number (set slots p None) q ≡ None = ap (number_at number (set slots p None)) s ∙ ap (option_map number) (get_or-set_same slots p None None (slot_inside number n slots p there)) in cc in
              let stood : number_at number slots q ≡ Some m = sym (ap (option_map number) (get_or-set_other slots p q None None other)) ∙ e in
              let led = leads.whole m q stood in
              let apart : n ≡ m → ⊥ = λ s. other (stands_only m p (ap place (sym s) ∙ is) q stood) in
              tells_beside place later n None h m apart ∙ led

      -- after a record was put at the end
      pub leads_pushed : (x : X) → place (number x) ≡ None → ((q : ℕ) → later q ≡ cond (is_at (nat_cmp (number x)) q) (Some (length slots)) (place q)) → Leads number (slots ++ Some x ∷ []) later
      leads_pushed x none h = record { right = right; whole = whole }
        where
          here : number_at number (slots ++ Some x ∷ []) (length slots) ≡ Some (number x)
          here = ap (option_map number) (get_or_push slots (Some x) None (length slots) refl)

          before : (q : ℕ) → q < length slots → number_at number (slots ++ Some x ∷ []) q ≡ number_at number slots q
          before q l = ap (option_map number) (get_or_append_left slots (Some x ∷ []) None q l)

          right : (m q : ℕ) → later m ≡ Some q → number_at number (slots ++ Some x ∷ []) q ≡ Some m
          right m q e = ⊎_elim (λ s. at_end s) (λ a. beside a) (cases_eq (number x) m)
            where
              at_end : number x ≡ m → number_at number (slots ++ Some x ∷ []) q ≡ Some m
              at_end s =
                  let told : later m ≡ Some (length slots) = ap later (sym s) ∙ tells_at place later (number x) (Some (length slots)) h in
                  let same : length slots ≡ q = cc in
                  ap (number_at number (slots ++ Some x ∷ [])) (sym same) ∙ here ∙ ap Some s

              beside : (number x ≡ m → ⊥) → number_at number (slots ++ Some x ∷ []) q ≡ Some m
              beside a =
                  let stood = leads.right m q (sym (tells_beside place later (number x) (Some (length slots)) h m a) ∙ e) in
                  before q (slot_inside number m slots q stood) ∙ stood

          whole : (m q : ℕ) → number_at number (slots ++ Some x ∷ []) q ≡ Some m → later m ≡ Some q
          whole m q e = ⊎_elim (λ s. at_end s) (λ a. beside a) (cases_eq q (length slots))
            where
              at_end : q ≡ length slots → later m ≡ Some q
              at_end s =
                  let same : Some (number x) ≡ Some m = sym here ∙ ap (number_at number (slots ++ Some x ∷ [])) (sym s) ∙ e in
                  let is : number x ≡ m = cc in
                  ap later (sym is) ∙ tells_at place later (number x) (Some (length slots)) h ∙ ap Some (sym s)

              beside : (q ≡ length slots → ⊥) → later m ≡ Some q
              beside a =
                  let below = slot_inside number m (slots ++ Some x ∷ []) q e in
                  let inside : q < length slots = omega (arith, length-append slots (Some x ∷ []), a) in
                  let led = leads.whole m q (sym (before q inside) ∙ e) in
                  let apart : number x ≡ m → ⊥ = λ s. let no : place m ≡ None = ap place (sym s) ∙ none in cc in
                  tells_beside place later (number x) (Some (length slots)) h m apart ∙ led

    -- after a record was replaced
    pub leads_replaced : (x : X) (p : ℕ) → place (number x) ≡ Some p → Leads number (set slots p (Some x)) place
    leads_replaced x p is = record {
      right = λ n q e. same q ∙ leads.right n q e;
      whole = λ n q e. leads.whole n q (sym (same q) ∙ e);
    }
      where
        same : (q : ℕ) → number_at number (set slots p (Some x)) q ≡ number_at number slots q
        same q = ⊎_elim here (λ a. ap (option_map number) (get_or-set_other slots p q (Some x) None a)) (cases_eq q p)
          where
            there : number_at number slots p ≡ Some (number x)
            there = leads.right (number x) p is

            here : q ≡ p → number_at number (set slots p (Some x)) q ≡ number_at number slots q
            here s =
                ap (number_at number (set slots p (Some x))) s
                ∙ ap (option_map number) (get_or-set_same slots p (Some x) None (slot_inside number (number x) slots p there))
                ∙ sym there ∙ ap (number_at number slots) (sym s)
