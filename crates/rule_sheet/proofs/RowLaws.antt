-- Row by row, what a reading that gave a value says of the table, and what of a table gives a reading.
use Rattle.std.proofs.Common.{◌≡◌, ℕ, zero, suc, ◌+◌, ◌<◌, ◌≤◌, ℤ, pos, negsuc, Bool, true, false, ◌&&◌, ◌||◌, ◌⊎◌, inl, inr, List, [], ◌∷◌, length, drop, map, Option, Some, None, Ok, refl, sym, ap, subst, ◌∙◌, arith}
use Rattle.std.specs.Prelude.{codes, ◌==◌, nat_le, int_le, int_rem, unsigned_abs, slice_index_or, if◌then◌else◌}
use Rattle.std.specs.List.{list_all}
use Rattle.std.specs.Str.{bytes_eq}
use Rattle.std.proofs.lemmas.Bool.{and_parts, leb-true, le-leb}
use Rattle.std.proofs.lemmas.Bool.Decides.{nat_tests, Decides-eqb}
use Rattle.std.proofs.lemmas.Int.{ints}
use Rattle.std.proofs.lemmas.List.{length-map}
use Rattle.std.proofs.lemmas.List.Sums.{AllPass-from_list_all}
use Rattle.std.proofs.lemmas.Slice.Eq.{bytes_eq-Decides}
use Rattle.toml.specs.Data.{string, as_str, Members}
use Rattle.depth_rounding.specs.Bands.{AreLevels}
use Rattle.depth_rounding.specs.Steps.{AreSteps, is_step}
use Rattle.rule_sheet.specs.declared.fault.SheetFault.{SheetFault}
use Rattle.rule_sheet.specs.declared.fault.SheetFault.TheVariants as fault
use Rattle.rule_sheet.specs.declared.key.Key.{Key}
use Rattle.rule_sheet.specs.declared.key.Key.TheVariants.{Positive, Levels, StepFrom, Steps, SoundingRadius, Catzoc}
use Rattle.rule_sheet.specs.declared.sheet.Sense2.{Sense2}
use Rattle.rule_sheet.specs.declared.sheet.Sense2.TheVariants.{Down, Up}
use Rattle.rule_sheet.specs.Values.{Within}
use Rattle.readings.specs.Readings.{◌>>=◌}
use Rattle.rule_sheet.specs.Rows.{Read, checked, value_of, number_of, as_integers, all_between, rises, levels_of, step_from_of, are_multiples, steps_fit, steps_of, radii_of, sense_named, sense_of, catzoc_of}
use Rattle.rule_sheet.specs.Sheet.{at_key, HasNumber, HasText, HasIntegers, sense_name, version_of}
use Rattle.rule_sheet.proofs.Tests.{and_true, between-all, all-between, rises-pairs, pairs-rise, multiples-at, at-multiples}
use Rattle.rule_sheet.proofs.ReadLaws.{went, along, checked-passed, passes-checked, Stands, StandsOrDefault, value_of-ok, stands-value_of, default-value_of, text-stands, stands-text, number-stands, stands-number}

-- a list that stands or is a default, tested, and what is made of it
module _ {X : Type 0} (key : Key) (default : Option (List ℤ)) (test : List ℤ → Bool) (out_of_range : SheetFault) (make : List ℤ → X) (order : X → Bool) (out_of_order : SheetFault) where
  abbrev pub row : Members → Read X
  row ms = value_of key as_integers default ms >>= (λ zs. checked (test zs) out_of_range (make zs) >>= (λ x. checked (order x) out_of_order x))

  pub record IsRow (ms : Members) (x : X) : Type 0 where
    pub list : List ℤ
    pub stands : StandsOrDefault as_integers default (at_key ms key) list
    pub tested : test list ≡ true
    pub made : make list ≡ x
    pub ordered : order x ≡ true

  pub row-read : (ms : Members) (x : X) → row ms ≡ Ok x → IsRow ms x
  row-read ms x h =
      let w = went (value_of key as_integers default ms) (λ zs. checked (test zs) out_of_range (make zs) >>= (λ x. checked (order x) out_of_order x)) x h in
      let v = went (checked (test w.value) out_of_range (make w.value)) (λ x. checked (order x) out_of_order x) x w.rest in
      let p = checked-passed (test w.value) out_of_range (make w.value) v.value v.first in
      let q = checked-passed (order v.value) out_of_order v.value x v.rest in
      record {
        list = w.value;
        stands = value_of-ok key as_integers default ms w.value w.first;
        tested = p.0;
        made = p.1 ∙ q.1;
        ordered = sym (ap order q.1) ∙ q.0;
      }

  pub reads-row : (ms : Members) (zs : List ℤ) (x : X) → value_of key as_integers default ms ≡ Ok zs → test zs ≡ true → make zs ≡ x → order x ≡ true → row ms ≡ Ok x
  reads-row ms zs x h t m o =
      along (value_of key as_integers default ms) (λ zs. checked (test zs) out_of_range (make zs) >>= (λ x. checked (order x) out_of_order x)) zs x h
      (along (checked (test zs) out_of_range (make zs)) (λ x. checked (order x) out_of_order x) x x (passes-checked (test zs) out_of_range (make zs) t ∙ ap Ok m) (passes-checked (order x) out_of_order x o))

has-integers : (ms : Members) (key : Key) (zs : List ℤ) → Stands as_integers (at_key ms key) zs → HasIntegers ms key zs
has-integers ms key zs s = record { value = s.value; is_there = s.is_there; integers = s.kind_is }

-- what stands or is a default, as one or the other
pub stands-either : (ms : Members) (key : Key) (default zs : List ℤ) → StandsOrDefault as_integers (Some default) (at_key ms key) zs → HasIntegers ms key zs ⊎ ((at_key ms key ≡ None) × (zs ≡ default))
stands-either ms key default zs o = elim o [ inl s ↦ inl (has-integers ms key zs s) | inr d ↦ inr (d.0, (let e : Some default ≡ Some zs = d.1 in cc)) ]

stands-alone : (ms : Members) (key : Key) (zs : List ℤ) → StandsOrDefault as_integers None (at_key ms key) zs → HasIntegers ms key zs
stands-alone ms key zs o = elim o [ inl s ↦ has-integers ms key zs s | inr d ↦ absurd (let e : None ≡ Some zs = d.1 in cc) ]

pub integers-value_of : (ms : Members) (key : Key) (default : Option (List ℤ)) (zs : List ℤ) → HasIntegers ms key zs → value_of key as_integers default ms ≡ Ok zs
integers-value_of ms key default zs h = stands-value_of key as_integers default ms h.value zs h.is_there h.integers

pub either-value_of : (ms : Members) (key : Key) (default zs : List ℤ) → HasIntegers ms key zs ⊎ ((at_key ms key ≡ None) × (zs ≡ default)) → value_of key as_integers (Some default) ms ≡ Ok zs
either-value_of ms key default zs o = elim o [ inl h ↦ integers-value_of ms key (Some default) zs h | inr d ↦ default-value_of key as_integers ms default d.0 ∙ ap Ok (sym d.1) ]

-- levels
abbrev level_range : List ℤ → Bool
level_range zs = nat_le (length zs) 20 && all_between (negsuc 119998) (pos 119999) zs

pub are-levels : (zs : List ℤ) → length zs ≤ 20 → all_between (negsuc 119998) (pos 119999) zs ≡ true → rises zs ≡ true → AreLevels zs
are-levels zs few between rising = record {
  few = few;
  above = λ k l. (between-all (negsuc 119998) (pos 119999) zs between k (pos 0) l).0;
  below = λ k l. (between-all (negsuc 119998) (pos 119999) zs between k (pos 0) l).1;
  rising = λ i k m l. rises-pairs zs i k rising m l;
}

pub levels-read : (ms : Members) (zs : List ℤ) → levels_of ms ≡ Ok zs → HasIntegers ms Levels zs × AreLevels zs
levels-read ms zs h =
    let r = row-read Levels None level_range (fault.Range Levels) (λ x. x) rises (fault.Order Levels) ms zs h in
    let list = subst (λ x. (StandsOrDefault as_integers None (at_key ms Levels) x) × (level_range x ≡ true)) r.made (r.stands, r.tested) in
    let parts = and_parts (nat_le (length zs) 20) _ list.1 in
    (stands-alone ms Levels zs list.0, are-levels zs (leb-true _ _ parts.0) parts.1 r.ordered)

pub reads-levels : (ms : Members) (zs : List ℤ) → HasIntegers ms Levels zs → AreLevels zs → levels_of ms ≡ Ok zs
reads-levels ms zs h a =
    let range = and_true (nat_le (length zs) 20) (all_between (negsuc 119998) (pos 119999) zs) (le-leb _ _ a.few) (all-between (negsuc 119998) (pos 119999) zs (λ k l. (a.above k l, a.below k l))) in
    reads-row Levels None level_range (fault.Range Levels) (λ x. x) rises (fault.Order Levels) ms zs zs (integers-value_of ms Levels None zs h) range refl (pairs-rise zs a.rising)

-- the depths at which further steps begin
abbrev usual_from : List ℤ
usual_from = pos 210 ∷ pos 310 ∷ []

abbrev from_range : List ℤ → Bool
from_range zs = nat_le (length zs) 8 && all_between (negsuc 119999) (pos 120000) zs

pub record IsFrom (zs : List ℤ) : Type 0 where
  pub few : length zs ≤ 8
  pub between : all_between (negsuc 119999) (pos 120000) zs ≡ true
  pub rising : rises zs ≡ true

pub record IsFromRead (ms : Members) (zs : List ℤ) : Type 0 where
  pub stands : HasIntegers ms StepFrom zs ⊎ ((at_key ms StepFrom ≡ None) × (zs ≡ usual_from))
  pub is_from : IsFrom zs

pub from-read : (ms : Members) (zs : List ℤ) → step_from_of ms ≡ Ok zs → IsFromRead ms zs
from-read ms zs h =
    let r = row-read StepFrom (Some usual_from) from_range (fault.Range StepFrom) (λ x. x) rises (fault.Order StepFrom) ms zs h in
    let list = subst (λ x. (StandsOrDefault as_integers (Some usual_from) (at_key ms StepFrom) x) × (from_range x ≡ true)) r.made (r.stands, r.tested) in
    let parts = and_parts (nat_le (length zs) 8) _ list.1 in
    record {
      stands = stands-either ms StepFrom usual_from zs list.0;
      is_from = record { few = leb-true _ _ parts.0; between = parts.1; rising = r.ordered };
    }

pub reads-from : (ms : Members) (zs : List ℤ) → HasIntegers ms StepFrom zs ⊎ ((at_key ms StepFrom ≡ None) × (zs ≡ usual_from)) → IsFrom zs → step_from_of ms ≡ Ok zs
reads-from ms zs h a = reads-row StepFrom (Some usual_from) from_range (fault.Range StepFrom) (λ x. x) rises (fault.Order StepFrom) ms zs zs (either-value_of ms StepFrom usual_from zs h) (and_true _ _ (le-leb _ _ a.few) a.between) refl a.rising

-- the steps
abbrev usual_steps : List ℤ
usual_steps = pos 1 ∷ pos 5 ∷ pos 10 ∷ []

abbrev steps_range : List ℤ → Bool
steps_range zs = (nat_le 1 (length zs) && nat_le (length zs) 9) && list_all is_step zs

pub record IsStepsRead (step_from : List ℤ) (ms : Members) (zs : List ℤ) : Type 0 where
  pub stands : HasIntegers ms Steps zs ⊎ ((at_key ms Steps ≡ None) × (zs ≡ usual_steps))
  pub known : list_all is_step zs ≡ true
  pub fit : steps_fit step_from zs ≡ true

pub steps-read : (step_from : List ℤ) (ms : Members) (zs : List ℤ) → steps_of step_from ms ≡ Ok zs → IsStepsRead step_from ms zs
steps-read step_from ms zs h =
    let r = row-read Steps (Some usual_steps) steps_range (fault.Range Steps) (λ x. x) (steps_fit step_from) (fault.Order Steps) ms zs h in
    let list = subst (λ x. (StandsOrDefault as_integers (Some usual_steps) (at_key ms Steps) x) × (steps_range x ≡ true)) r.made (r.stands, r.tested) in
    record {
      stands = stands-either ms Steps usual_steps zs list.0;
      known = (and_parts (nat_le 1 (length zs) && nat_le (length zs) 9) _ list.1).1;
      fit = r.ordered;
    }

at-drop : (steps : List ℤ) (k : ℕ) → slice_index_or (drop 1 steps) k (pos 0) ≡ slice_index_or steps (k + 1) (pos 0)
at-drop [] k = refl
at-drop (step ∷ steps) k = grind arith

length-drop_one : (steps : List ℤ) (n : ℕ) → length steps ≡ n + 1 → length (drop 1 steps) ≡ n
length-drop_one [] n h = omega (arith, h)
length-drop_one (step ∷ steps) n h = omega (arith, h)

pub are-steps : (step_from steps : List ℤ) → IsFrom step_from → list_all is_step steps ≡ true → steps_fit step_from steps ≡ true → AreSteps step_from steps
are-steps step_from steps from known fit =
    let parts = and_parts (length steps == length step_from + 1) (are_multiples step_from (drop 1 steps)) fit in
    let more : length steps ≡ length step_from + 1 = (Decides-eqb _ _).0 parts.0 in
    record {
      few = from.few;
      one_more = more;
      known = λ k l. AllPass-from_list_all is_step steps known k (pos 0) l;
      above = λ k l. (between-all (negsuc 119999) (pos 120000) step_from from.between k (pos 0) l).0;
      below = λ k l. (between-all (negsuc 119999) (pos 120000) step_from from.between k (pos 0) l).1;
      rising = λ i k m l. rises-pairs step_from i k from.rising m l;
      whole = λ k l. ap (int_rem (slice_index_or step_from k (pos 0))) (sym (at-drop steps k)) ∙ multiples-at step_from (drop 1 steps) k parts.1 l (let e = length-drop_one steps (length step_from) more in omega (arith, e, l));
    }

pub from-steps : (step_from steps : List ℤ) → AreSteps step_from steps → IsFrom step_from
from-steps step_from steps a = record {
  few = a.few;
  between = all-between (negsuc 119999) (pos 120000) step_from (λ k l. (a.above k l, a.below k l));
  rising = pairs-rise step_from a.rising;
}

list_all-at : (zs : List ℤ) → ((k : ℕ) → k < length zs → is_step (slice_index_or zs k (pos 0)) ≡ true) → list_all is_step zs ≡ true
list_all-at [] h = refl
list_all-at (z ∷ zs) h = and_true (is_step z) _ (h zero (omega arith)) (list_all-at zs (λ k l. h (suc k) (omega (arith, l))))

pub reads-steps : (step_from : List ℤ) (ms : Members) (zs : List ℤ) → HasIntegers ms Steps zs ⊎ ((at_key ms Steps ≡ None) × (zs ≡ usual_steps)) → AreSteps step_from zs → steps_of step_from ms ≡ Ok zs
reads-steps step_from ms zs h a =
    let some : 1 ≤ length zs = omega (arith, a.one_more) in
    let most : length zs ≤ 9 = omega (arith, a.one_more, a.few) in
    let range = and_true (nat_le 1 (length zs) && nat_le (length zs) 9) (list_all is_step zs) (and_true _ _ (le-leb _ _ some) (le-leb _ _ most)) (list_all-at zs a.known) in
    let whole = at-multiples step_from (drop 1 zs) (λ k l. ap (int_rem (slice_index_or step_from k (pos 0))) (at-drop zs k) ∙ a.whole k l) in
    reads-row Steps (Some usual_steps) steps_range (fault.Range Steps) (λ x. x) (steps_fit step_from) (fault.Order Steps) ms zs zs (either-value_of ms Steps usual_steps zs h) range refl (and_true (length zs == length step_from + 1) _ ((Decides-eqb _ _).1 a.one_more) whole)

-- radii
abbrev radii_range : List ℤ → Bool
radii_range zs = (nat_le 1 (length zs) && nat_le (length zs) 21) && all_between (pos 0) (pos 64000) zs

abbrev one_or_each : ℕ → List ℕ → Bool
one_or_each levels radii = length radii == 1 || length radii == levels + 1

naturals : (zs : List ℤ) → all_between (pos 0) (pos 64000) zs ≡ true → map pos (map unsigned_abs zs) ≡ zs
naturals [] h = refl
naturals (pos n ∷ zs) h = ap (λ rest. pos n ∷ rest) (naturals zs (and_parts (int_le (pos 0) (pos n) && int_le (pos n) (pos 64000)) _ h).1)
naturals (negsuc n ∷ zs) h = absurd (let e : false ≡ true = h in cc)

small : (zs : List ℤ) (k : ℕ) → all_between (pos 0) (pos 64000) zs ≡ true → slice_index_or (map unsigned_abs zs) k 0 ≤ 64000
small [] k h = omega arith
small (pos n ∷ zs) zero h =
    let p = and_parts (int_le (pos 0) (pos n) && int_le (pos n) (pos 64000)) _ h in
    let q = and_parts (int_le (pos 0) (pos n)) (int_le (pos n) (pos 64000)) p.0 in
    grind (arith, ints, q.1)
small (pos n ∷ zs) (suc k) h = small zs k (and_parts (int_le (pos 0) (pos n) && int_le (pos n) (pos 64000)) _ h).1
small (negsuc n ∷ zs) k h = absurd (let e : false ≡ true = h in cc)

magnitudes : (rs : List ℕ) → map unsigned_abs (map pos rs) ≡ rs
magnitudes [] = refl
magnitudes (r ∷ rs) = ap (λ rest. r ∷ rest) (magnitudes rs)

small-between : (rs : List ℕ) → ((k : ℕ) → k < length rs → slice_index_or rs k 0 ≤ 64000) → all_between (pos 0) (pos 64000) (map pos rs) ≡ true
small-between [] h = refl
small-between (r ∷ rs) h =
    let first : r ≤ 64000 = h zero (omega arith) in
    and_true (int_le (pos 0) (pos r) && int_le (pos r) (pos 64000)) _ (grind (arith, ints)) (small-between rs (λ k l. h (suc k) (omega (arith, l))))

pub record IsRadii (levels : ℕ) (rs : List ℕ) : Type 0 where
  pub small : (k : ℕ) → k < length rs → slice_index_or rs k 0 ≤ 64000
  pub fits : one_or_each levels rs ≡ true

pub radii-read : (levels : ℕ) (ms : Members) (rs : List ℕ) → radii_of levels ms ≡ Ok rs → HasIntegers ms SoundingRadius (map pos rs) × IsRadii levels rs
radii-read levels ms rs h =
    let r = row-read SoundingRadius None radii_range (fault.Range SoundingRadius) (map unsigned_abs) (one_or_each levels) (fault.Order SoundingRadius) ms rs h in
    let between = (and_parts (nat_le 1 (length r.list) && nat_le (length r.list) 21) (all_between (pos 0) (pos 64000) r.list) r.tested).1 in
    let same : r.list ≡ map pos rs = sym (naturals r.list between) ∙ ap (map pos) r.made in
    (stands-alone ms SoundingRadius (map pos rs) (subst (StandsOrDefault as_integers None (at_key ms SoundingRadius)) same r.stands), record { small = λ k l. subst (λ xs. slice_index_or xs k 0 ≤ 64000) r.made (small r.list k between); fits = r.ordered })

some-radii : (levels n : ℕ) → (n == 1 || n == levels + 1) ≡ true → 1 ≤ n
some-radii levels n h = grind (arith, nat_tests)

most-radii : (levels n : ℕ) → levels ≤ 20 → (n == 1 || n == levels + 1) ≡ true → n ≤ 21
most-radii levels n l h = grind (arith, nat_tests)

pub reads-radii : (levels : ℕ) (ms : Members) (rs : List ℕ) → levels ≤ 20 → HasIntegers ms SoundingRadius (map pos rs) → IsRadii levels rs → radii_of levels ms ≡ Ok rs
reads-radii levels ms rs few h a =
    let same : length (map pos rs) ≡ length rs = length-map rs pos in
    let some : 1 ≤ length (map pos rs) = let s = some-radii levels (length rs) a.fits in omega (arith, s, same) in
    let most : length (map pos rs) ≤ 21 = let s = most-radii levels (length rs) few a.fits in omega (arith, s, same) in
    let range = and_true (nat_le 1 (length (map pos rs)) && nat_le (length (map pos rs)) 21) (all_between (pos 0) (pos 64000) (map pos rs)) (and_true _ _ (le-leb _ _ some) (le-leb _ _ most)) (small-between rs a.small) in
    reads-row SoundingRadius None radii_range (fault.Range SoundingRadius) (map unsigned_abs) (one_or_each levels) (fault.Order SoundingRadius) ms (map pos rs) rs (integers-value_of ms SoundingRadius None (map pos rs) h) range (magnitudes rs) a.fits

-- texts
named : (name : List ℕ) (a b : Bool) (sense : Sense2) → bytes_eq name (codes "down") ≡ a → bytes_eq name (codes "up") ≡ b → (if a then Ok Down else checked b (fault.Range Positive) Up) ≡ Ok sense → name ≡ sense_name sense
named name true b sense down up h = (bytes_eq-Decides name (codes "down")).0 down ∙ (let e : Down ≡ sense = cc in ap sense_name e)
named name false true sense down up h = (bytes_eq-Decides name (codes "up")).0 up ∙ (let e : Up ≡ sense = cc in ap sense_name e)
named name false false sense down up h = absurd (cc)

pub sense-read : (ms : Members) (sense : Sense2) → sense_of ms ≡ Ok sense → HasText ms Positive (sense_name sense)
sense-read ms sense h =
    let w = went (value_of Positive as_str None ms) sense_named sense h in
    text-stands Positive ms w.value w.first ∙ ap (λ name. Some (string name)) (named w.value _ _ sense refl refl w.rest)

name-named : (sense : Sense2) → sense_named (sense_name sense) ≡ Ok sense
name-named Down = refl
name-named Up = refl

pub reads-sense : (ms : Members) (sense : Sense2) → HasText ms Positive (sense_name sense) → sense_of ms ≡ Ok sense
reads-sense ms sense h = along (value_of Positive as_str None ms) sense_named (sense_name sense) sense (stands-text Positive ms (sense_name sense) h) (name-named sense)

module _ (key : Key) (test : List ℕ → Bool) where
  abbrev text_row : Members → Read (List ℕ)
  text_row ms = value_of key as_str None ms >>= (λ text. checked (test text) (fault.Range key) text)

  pub text-read : (ms : Members) (text : List ℕ) → text_row ms ≡ Ok text → HasText ms key text × (test text ≡ true)
  text-read ms text h =
      let w = went (value_of key as_str None ms) (λ text. checked (test text) (fault.Range key) text) text h in
      let p = checked-passed (test w.value) (fault.Range key) w.value text w.rest in
      (text-stands key ms w.value w.first ∙ ap (λ name. Some (string name)) p.1, sym (ap test p.1) ∙ p.0)

  pub reads-text : (ms : Members) (text : List ℕ) → HasText ms key text → test text ≡ true → text_row ms ≡ Ok text
  reads-text ms text h t = along (value_of key as_str None ms) (λ text. checked (test text) (fault.Range key) text) text text (stands-text key ms text h) (passes-checked (test text) (fault.Range key) text t)

-- the category of zone of confidence
pub record IsZoneRead (version : ℕ) (ms : Members) (zone : Option ℕ) : Type 0 where
  pub version_is : version ≡ version_of zone
  pub stands : (n : ℕ) → zone ≡ Some n → HasNumber ms Catzoc n
  pub within : (n : ℕ) → zone ≡ Some n → Within 1 6 n

first-version : (version : ℕ) → Within 1 2 version → (version == 2) ≡ false → version ≡ 1
first-version version w h = grind (arith, nat_tests)

zone-by : (b : Bool) (version : ℕ) (ms : Members) (zone : Option ℕ) → Within 1 2 version → (version == 2) ≡ b → (if b then (number_of Catzoc 1 6 None ms >>= (λ n. Ok (Some n))) else Ok None) ≡ Ok zone → IsZoneRead version ms zone
zone-by true version ms zone w b h =
    let v = went (number_of Catzoc 1 6 None ms) (λ n. Ok (Some n)) zone h in
    let p = number-stands Catzoc 1 6 ms v.value v.first in
    let is_zone : Some v.value ≡ zone = (let e : Ok (Some v.value) ≡ Ok zone = v.rest in cc) in
    record {
      version_is = (Decides-eqb version 2).0 b ∙ ap version_of is_zone;
      stands = λ n e. subst (HasNumber ms Catzoc) (let s : Some v.value ≡ Some n = is_zone ∙ e in cc) p.0;
      within = λ n e. subst (Within 1 6) (let s : Some v.value ≡ Some n = is_zone ∙ e in cc) p.1;
    }
zone-by false version ms zone w b h =
    let none : None ≡ zone = (let e : Ok None ≡ Ok zone = h in cc) in
    record {
      version_is = first-version version w b ∙ ap version_of none;
      stands = λ n e. absurd (let s : None ≡ Some n = none ∙ e in cc);
      within = λ n e. absurd (let s : None ≡ Some n = none ∙ e in cc);
    }

pub zone-read : (version : ℕ) (ms : Members) (zone : Option ℕ) → Within 1 2 version → catzoc_of version ms ≡ Ok zone → IsZoneRead version ms zone
zone-read version ms zone w h = zone-by (version == 2) version ms zone w refl h

pub reads-zone : (ms : Members) (zone : Option ℕ) → ((n : ℕ) → zone ≡ Some n → HasNumber ms Catzoc n) → ((n : ℕ) → zone ≡ Some n → Within 1 6 n) → catzoc_of (version_of zone) ms ≡ Ok zone
reads-zone ms None h w = refl
reads-zone ms (Some n) h w = along (number_of Catzoc 1 6 None ms) (λ n. Ok (Some n)) n (Some n) (stands-number Catzoc 1 6 None ms n (h n refl) (w n refl)) refl
