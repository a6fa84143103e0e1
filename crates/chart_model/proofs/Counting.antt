-- The sums of a tally are the lengths of the lists of what is counted.
use Rattle.std.proofs.Common.{◌≡◌, ℕ, ◌+◌, Bool, true, false, cond, List, [], ◌∷◌, Option, Some, None, length, eqb, refl, sym, subst, ◌∙◌, arith}
use Rattle.std.specs.List.{filter, flat_map, sum_by}
use Rattle.std.proofs.lemmas.List.{append-nil, length-append}
use Rattle.std.proofs.lemmas.List.Sums.{length-filter, sum_by-cons}
use Rattle.chart_model.specs.Areas.{is_area}
use Rattle.chart_model.specs.Lines.{isolated_at}
use Rattle.chart_model.specs.Tally.{IsTally, named_soundings, soundings_at, soundings_in, pointer_soundings, soundings_of, tally_of}
use Rattle.chart_model.specs.declared.counts.Tally.{Tally}
use Rattle.chart_model.specs.declared.records.Feature.{Feature}
use Rattle.chart_model.specs.declared.records.Isolated.{Isolated}
use Rattle.chart_model.specs.declared.records.Parts.{Parts}
use Rattle.chart_model.specs.declared.records.Pointer.{Pointer}
use Rattle.chart_model.specs.declared.records.Sounding.{Sounding}
use Rattle.s57_codes.specs.Catalogue.{objl_depcnt, objl_soundg, rcnm_isolated_node}

-- a sum of lengths is the length of all lists one after the other
sum_of_lengths : {X Y : Type 0} (n : X → ℕ) (g : X → List Y) → ((x : X) → n x ≡ length (g x)) → (xs : List X) → sum_by n xs ≡ length (flat_map g xs)
sum_of_lengths n g is [] = refl
sum_of_lengths n g is (x ∷ xs) = omega (arith, sum_by-cons n x xs, is x, sum_of_lengths n g is xs, length-append (g x) (flat_map g xs))

-- the same, of those that pass a test
sum_of_passing : {X Y : Type 0} (q : X → Bool) (n : X → ℕ) (g : X → List Y) → ((x : X) → n x ≡ length (g x)) → (xs : List X)
    → sum_by (λ x. cond (q x) (n x) 0) xs ≡ length (flat_map g (filter q xs))
sum_of_passing q n g is [] = refl
sum_of_passing {X} q n g is (x ∷ xs) = sum_by-cons (λ (y : X). cond (q y) (n y) 0) x xs ∙ by_test (q x) (sum_of_passing q n g is xs)
  where
    by_test : (b : Bool) → sum_by (λ (y : X). cond (q y) (n y) 0) xs ≡ length (flat_map g (filter q xs))
        → cond b (n x) 0 + sum_by (λ (y : X). cond (q y) (n y) 0) xs ≡ length (flat_map g (cond b (x ∷ filter q xs) (filter q xs)))
    by_test true rest = omega (arith, is x, rest, length-append (g x) (flat_map g (filter q xs)))
    by_test false rest = omega (arith, rest)

by_kind : (b : Bool) (list : List Sounding) → cond b (length list) 0 ≡ length (cond b list [])
by_kind true list = refl
by_kind false list = refl

-- a pointer adds as many soundings as it names
named_by : (c : Parts) (p : Pointer) (found : Option Isolated) → isolated_at c p.rcid ≡ found → soundings_at c p ≡ length (pointer_soundings c p)
named_by c p None none = rw none (by_kind (eqb p.rcnm rcnm_isolated_node) [])
named_by c p (Some n) one = rw (one, append-nil (soundings_of n)) (by_kind (eqb p.rcnm rcnm_isolated_node) (soundings_of n))

soundings_are : (c : Parts) → sum_by (soundings_in c) c.features ≡ length (named_soundings c)
soundings_are c = sum_of_passing (λ (f : Feature). eqb f.objl objl_soundg) (λ (f : Feature). sum_by (soundings_at c) f.pointers) (λ (f : Feature). flat_map (pointer_soundings c) f.pointers)
    (λ f. sum_of_lengths (soundings_at c) (pointer_soundings c) (λ p. named_by c p (isolated_at c p.rcid) refl) f.pointers) c.features

pub tally_is : (c : Parts) → IsTally c (tally_of c)
tally_is c = record {
  areas = sym (length-filter is_area c.features);
  contours = sym (length-filter (λ (f : Feature). eqb f.objl objl_depcnt) c.features);
  soundings = soundings_are c;
}

pub counted : (c : Parts) (t : Tally) → t ≡ tally_of c → IsTally c t
counted c t is = subst (IsTally c) (sym is) (tally_is c)

pub only_tally : (c : Parts) (t : Tally) → IsTally c t → t ≡ tally_of c
only_tally c t h = let is = tally_is c in grind (arith, h.areas, h.contours, h.soundings, is.areas, is.contours, is.soundings)
