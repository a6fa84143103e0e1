-- Readings that give a value, and readings whose faults are a row's own.
use Rattle.std.proofs.Common.{◌≡◌, ℕ, ℤ, pos, negsuc, Bool, true, false, ◌&&◌, ◌⊎◌, inl, inr, List, Option, Some, None, Ok, Err, refl, ap, subst, ◌∙◌}
use Rattle.std.specs.Prelude.{nat_le}
use Rattle.std.proofs.lemmas.Bool.{and_parts, leb-true, le-leb}
use Rattle.toml.specs.Data.{Data, string, integer, float, boolean, datetime, array, table, as_integer, as_str, Members}
use Rattle.rule_sheet.specs.declared.fault.SheetFault.{SheetFault}
use Rattle.rule_sheet.specs.declared.fault.SheetFault.TheVariants as fault
use Rattle.rule_sheet.specs.declared.key.Key.{Key}
use Rattle.rule_sheet.specs.Values.{Within}
use Rattle.readings.specs.Readings.{◌>>=◌}
use Rattle.rule_sheet.specs.Rows.{Read, checked, there, kind_of, value_of, ranged, number_of}
use Rattle.rule_sheet.specs.Sheet.{at_key, HasNumber, HasText}
use Rattle.rule_sheet.proofs.Tests.{and_true}

-- a reading in two steps that gave a value
pub record Went {X Y : Type 0} (m : Read X) (f : X → Read Y) (y : Y) : Type 0 where
  pub value : X
  pub first : m ≡ Ok value
  pub rest : f value ≡ Ok y

pub went : {X Y : Type 0} (m : Read X) (f : X → Read Y) (y : Y) → (m >>= f) ≡ Ok y → Went m f y
went (Ok x) f y h = record { value = x; first = refl; rest = h }
went (Err e) f y h = absurd (cc)

-- what follows from and_true steps follows from the reading
pub each_step : {X Y P : Type 0} (m : Read X) (f : X → Read Y) (y : Y) → (m >>= f) ≡ Ok y → ((x : X) → m ≡ Ok x → f x ≡ Ok y → P) → P
each_step m f y h use_steps = let w = went m f y h in use_steps w.value w.first w.rest

pub along : {X Y : Type 0} (m : Read X) (f : X → Read Y) (x : X) (y : Y) → m ≡ Ok x → f x ≡ Ok y → (m >>= f) ≡ Ok y
along m f x y h k = ap (λ r. r >>= f) h ∙ k

pub checked-passed : {X : Type 0} (b : Bool) (e : SheetFault) (x y : X) → checked b e x ≡ Ok y → (b ≡ true) × (x ≡ y)
checked-passed true e x y h = (refl, cc)
checked-passed false e x y h = absurd (cc)

pub passes-checked : {X : Type 0} (b : Bool) (e : SheetFault) (x : X) → b ≡ true → checked b e x ≡ Ok x
passes-checked true e x h = refl
passes-checked false e x h = absurd (cc)

there-some : {X : Type 0} (e : SheetFault) (o : Option X) (x : X) → there e o ≡ Ok x → o ≡ Some x
there-some e None x h = absurd (cc)
there-some e (Some y) x h = cc

-- the value stands at the key, or is the default
pub record Stands {X : Type 0} (kind : Data → Option X) (o : Option Data) (x : X) : Type 0 where
  pub value : Data
  pub is_there : o ≡ Some value
  pub kind_is : kind value ≡ Some x

abbrev pub StandsOrDefault : {X : Type 0} → (Data → Option X) → Option X → Option Data → X → Type 0
StandsOrDefault kind default o x = Stands kind o x ⊎ ((o ≡ None) × (default ≡ Some x))

kind_of-ok : {X : Type 0} (key : Key) (kind : Data → Option X) (default : Option X) (o : Option Data) (x : X) → kind_of key kind default o ≡ Ok x → StandsOrDefault kind default o x
kind_of-ok key kind default None x h = inr (refl, there-some _ _ x h)
kind_of-ok key kind default (Some d) x h = inl (record { value = d; is_there = refl; kind_is = there-some _ _ x h })

pub value_of-ok : {X : Type 0} (key : Key) (kind : Data → Option X) (default : Option X) (ms : Members) (x : X) → value_of key kind default ms ≡ Ok x → StandsOrDefault kind default (at_key ms key) x
value_of-ok key kind default ms x h = kind_of-ok key kind default (at_key ms key) x h

-- where there is no default, it stands
pub value_of-stands : {X : Type 0} (key : Key) (kind : Data → Option X) (ms : Members) (x : X) → value_of key kind None ms ≡ Ok x → Stands kind (at_key ms key) x
value_of-stands key kind ms x h = elim (value_of-ok key kind None ms x h) [ inl s ↦ s | inr d ↦ absurd (let e : None ≡ Some x = d.1 in cc) ]

pub stands-value_of : {X : Type 0} (key : Key) (kind : Data → Option X) (default : Option X) (ms : Members) (d : Data) (x : X) → at_key ms key ≡ Some d → kind d ≡ Some x → value_of key kind default ms ≡ Ok x
stands-value_of key kind default ms d x h k = ap (kind_of key kind default) h ∙ ap (there (fault.Kind key)) k

pub default-value_of : {X : Type 0} (key : Key) (kind : Data → Option X) (ms : Members) (x : X) → at_key ms key ≡ None → value_of key kind (Some x) ms ≡ Ok x
default-value_of key kind ms x h = ap (kind_of key kind (Some x)) h

as_integer-some : (d : Data) (z : ℤ) → as_integer d ≡ Some z → d ≡ integer z
as_integer-some (integer y) z h = ap integer (cc)
as_integer-some (string s) z h = absurd (cc)
as_integer-some (float x) z h = absurd (cc)
as_integer-some (boolean b) z h = absurd (cc)
as_integer-some (datetime t) z h = absurd (cc)
as_integer-some (array ds) z h = absurd (cc)
as_integer-some (table ms) z h = absurd (cc)

as_str-some : (d : Data) (s : List ℕ) → as_str d ≡ Some s → d ≡ string s
as_str-some (string t) s h = ap string (cc)
as_str-some (integer z) s h = absurd (cc)
as_str-some (float x) s h = absurd (cc)
as_str-some (boolean b) s h = absurd (cc)
as_str-some (datetime t) s h = absurd (cc)
as_str-some (array ds) s h = absurd (cc)
as_str-some (table ms) s h = absurd (cc)

pub text-stands : (key : Key) (ms : Members) (s : List ℕ) → value_of key as_str None ms ≡ Ok s → HasText ms key s
text-stands key ms s h =
    let p = value_of-stands key as_str ms s h in
    p.is_there ∙ ap Some (as_str-some p.value s p.kind_is)

pub stands-text : (key : Key) (ms : Members) (s : List ℕ) → HasText ms key s → value_of key as_str None ms ≡ Ok s
stands-text key ms s h = stands-value_of key as_str None ms (string s) s h refl

within-along : (low high m n : ℕ) → m ≡ n → Within low high m → Within low high n
within-along low high m n e w = subst (Within low high) e w

ranged-ok : (key : Key) (low high : ℕ) (z : ℤ) (n : ℕ) → ranged key low high z ≡ Ok n → (z ≡ pos n) × Within low high n
ranged-ok key low high (pos m) n h =
    let p = checked-passed (nat_le low m && nat_le m high) (fault.Range key) m n h in
    let q = and_parts (nat_le low m) (nat_le m high) p.0 in
    (ap pos p.1, within-along low high m n p.1 (leb-true low m q.0, leb-true m high q.1))
ranged-ok key low high (negsuc m) n h = absurd (cc)

pub within-ranged : (key : Key) (low high n : ℕ) → Within low high n → ranged key low high (pos n) ≡ Ok n
within-ranged key low high n w = passes-checked _ (fault.Range key) n (and_true _ _ (le-leb low n w.0) (le-leb n high w.1))

-- a number that was read
pub record IsNumberRead (ms : Members) (key : Key) (low high : ℕ) (default : Option ℤ) (n : ℕ) : Type 0 where
  pub stands : HasNumber ms key n ⊎ ((at_key ms key ≡ None) × (default ≡ Some (pos n)))
  pub within : Within low high n

pub number-read : (key : Key) (low high : ℕ) (default : Option ℤ) (ms : Members) (n : ℕ) → number_of key low high default ms ≡ Ok n → IsNumberRead ms key low high default n
number-read key low high default ms n h =
    let w = went (value_of key as_integer default ms) (λ z. ranged key low high z) n h in
    let r = ranged-ok key low high w.value n w.rest in
    let first : value_of key as_integer default ms ≡ Ok (pos n) = w.first ∙ ap Ok r.0 in
    record {
      stands = elim (value_of-ok key as_integer default ms (pos n) first) [ inl s ↦ inl (s.is_there ∙ ap Some (as_integer-some s.value (pos n) s.kind_is)) | inr d ↦ inr d ];
      within = r.1;
    }

pub number-stands : (key : Key) (low high : ℕ) (ms : Members) (n : ℕ) → number_of key low high None ms ≡ Ok n → HasNumber ms key n × Within low high n
number-stands key low high ms n h =
    let r = number-read key low high None ms n h in
    (elim r.stands [ inl s ↦ s | inr d ↦ absurd (let e : None ≡ Some (pos n) = d.1 in cc) ], r.within)

pub stands-number : (key : Key) (low high : ℕ) (default : Option ℤ) (ms : Members) (n : ℕ) → HasNumber ms key n → Within low high n → number_of key low high default ms ≡ Ok n
stands-number key low high default ms n h w = along (value_of key as_integer default ms) (λ z. ranged key low high z) (pos n) n (stands-value_of key as_integer default ms (integer (pos n)) (pos n) h refl) (within-ranged key low high n w)

pub default-number : (key : Key) (low high : ℕ) (ms : Members) (n : ℕ) → at_key ms key ≡ None → Within low high n → number_of key low high (Some (pos n)) ms ≡ Ok n
default-number key low high ms n h w = along (value_of key as_integer (Some (pos n)) ms) (λ z. ranged key low high z) (pos n) n (default-value_of key as_integer ms (pos n) h) (within-ranged key low high n w)
