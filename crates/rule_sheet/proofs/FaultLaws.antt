-- A row's fault is neither the text's as TOML nor want of memory; and what follows of what a function returned.
use Rattle.std.proofs.Common.{◌≡◌, ℕ, ◌+◌, ℤ, pos, negsuc, Bool, true, false, List, [], ◌∷◌, length, map, Option, Some, None, Ok, Err, sym, subst, ◌∙◌}
use Rattle.std.specs.Prelude.{codes, ◌==◌, ◌||◌, unsigned_abs, IfOk, if◌then◌else◌}
use Rattle.std.specs.Str.{bytes_eq}
use Rattle.toml.specs.Data.{Data, as_str, Members}
use Rattle.rule_sheet.specs.declared.fault.SheetFault.{SheetFault}
use Rattle.rule_sheet.specs.declared.fault.SheetFault.TheVariants as fault
use Rattle.rule_sheet.specs.declared.key.Key.{Key}
use Rattle.rule_sheet.specs.declared.key.Key.TheVariants.{Version, Positive, Levels, StepFrom, Steps, Aspect, DiscRadius, SoundingRadius, Name, Edition, Issued, Agency, Scale, Usage, VerticalDatum, SoundingDatum, Catzoc}
use Rattle.rule_sheet.specs.declared.sheet.Sense2.TheVariants.{Down, Up}
use Rattle.rule_sheet.specs.Keys.{keys_of, all_known}
use Rattle.rule_sheet.specs.declared.sheet.Sheet.{Sheet}
use Rattle.rule_sheet.specs.Values.{SheetView, is_cell_name, is_day}
use Rattle.readings.specs.Readings.{◌>>=◌}
use Rattle.rule_sheet.specs.Rows.{Read, checked, there, kind_of, value_of, ranged, number_of, as_integers, rises, levels_of, step_from_of, steps_fit, steps_of, radii_of, sense_named, sense_of, cell_name_of, issued_of, catzoc_of}
use Rattle.rule_sheet.specs.Sheet.{at_key, Reads, StandsFor, Gives, step_lists_of, disc_of, sheet_of}
use Rattle.rule_sheet.specs.Views.{sheet_view}
use Rattle.rule_sheet.proofs.TableLaws.{table-read, table-reads}

-- the fault is a row's, or a name's that no row has
abbrev pub IsRowFault : SheetFault → Type 0
IsRowFault fault.Toml = ⊥
IsRowFault fault.NoMemory = ⊥
IsRowFault _ = Unit {0}

-- a value, or such a fault
abbrev pub IsOwn : {X : Type 0} → Read X → Type 0
IsOwn (Ok x) = Unit {0}
IsOwn (Err e) = IsRowFault e

own-step : {X Y : Type 0} (m : Read X) (f : X → Read Y) → IsOwn m → ((x : X) → IsOwn (f x)) → IsOwn (m >>= f)
own-step (Ok x) f h k = k x
own-step (Err e) f h k = h

own-checked : {X : Type 0} (b : Bool) (e : SheetFault) (x : X) → IsRowFault e → IsOwn (checked b e x)
own-checked true e x h = tt
own-checked false e x h = h

own-there : {X : Type 0} (e : SheetFault) (o : Option X) → IsRowFault e → IsOwn (there e o)
own-there e None h = h
own-there e (Some x) h = tt

own-kind : {X : Type 0} (key : Key) (kind : Data → Option X) (default : Option X) (o : Option Data) → IsOwn (kind_of key kind default o)
own-kind key kind default None = own-there (fault.Missing key) default tt
own-kind key kind default (Some d) = own-there (fault.Kind key) (kind d) tt

own-value : {X : Type 0} (key : Key) (kind : Data → Option X) (default : Option X) (ms : Members) → IsOwn (value_of key kind default ms)
own-value key kind default ms = own-kind key kind default (at_key ms key)

own-ranged : (key : Key) (low high : ℕ) (z : ℤ) → IsOwn (ranged key low high z)
own-ranged key low high (pos n) = own-checked _ (fault.Range key) n tt
own-ranged key low high (negsuc n) = tt

own-number : (key : Key) (low high : ℕ) (default : Option ℤ) (ms : Members) → IsOwn (number_of key low high default ms)
own-number key low high default ms = own-step _ (λ z. ranged key low high z) (own-value key _ default ms) (λ z. own-ranged key low high z)

-- a value in two steps, each tested
own-two : {X Y : Type 0} (m : Read X) (test : X → Bool) (e : SheetFault) (make : X → Y) (order : Y → Bool) (f : SheetFault) → IsOwn m → IsRowFault e → IsRowFault f → IsOwn (m >>= (λ x. checked (test x) e (make x) >>= (λ y. checked (order y) f y)))
own-two m test e make order f h k l = own-step m (λ x. checked (test x) e (make x) >>= (λ y. checked (order y) f y)) h (λ x. own-step (checked (test x) e (make x)) (λ y. checked (order y) f y) (own-checked (test x) e (make x) k) (λ y. own-checked (order y) f y l))

own-levels : (ms : Members) → IsOwn (levels_of ms)
own-levels ms = own-two (value_of Levels as_integers None ms) _ (fault.Range Levels) (λ zs. zs) rises (fault.Order Levels) (own-value Levels as_integers None ms) tt tt

own-from : (ms : Members) → IsOwn (step_from_of ms)
own-from ms = own-two (value_of StepFrom as_integers (Some (pos 210 ∷ pos 310 ∷ [])) ms) _ (fault.Range StepFrom) (λ zs. zs) rises (fault.Order StepFrom) (own-value StepFrom as_integers (Some (pos 210 ∷ pos 310 ∷ [])) ms) tt tt

own-steps : (step_from : List ℤ) (ms : Members) → IsOwn (steps_of step_from ms)
own-steps step_from ms = own-two (value_of Steps as_integers (Some (pos 1 ∷ pos 5 ∷ pos 10 ∷ [])) ms) _ (fault.Range Steps) (λ zs. zs) (steps_fit step_from) (fault.Order Steps) (own-value Steps as_integers (Some (pos 1 ∷ pos 5 ∷ pos 10 ∷ [])) ms) tt tt

own-lists : (ms : Members) → IsOwn (step_lists_of ms)
own-lists ms = own-step (step_from_of ms) _ (own-from ms) (λ step_from. own-step (steps_of step_from ms) _ (own-steps step_from ms) (λ steps. tt))

own-disc : (ms : Members) → IsOwn (disc_of ms)
own-disc ms = own-step (number_of Aspect 100 1000 (Some (pos 1000)) ms) _ (own-number Aspect 100 1000 (Some (pos 1000)) ms) (λ aspect. own-step (number_of DiscRadius 0 64000 (Some (pos 0)) ms) _ (own-number DiscRadius 0 64000 (Some (pos 0)) ms) (λ radius. tt))

own-radii : (levels : ℕ) (ms : Members) → IsOwn (radii_of levels ms)
own-radii levels ms = own-two (value_of SoundingRadius as_integers None ms) _ (fault.Range SoundingRadius) (map unsigned_abs) (λ radii. length radii == 1 || length radii == levels + 1) (fault.Order SoundingRadius) (own-value SoundingRadius as_integers None ms) tt tt

own-named : (a b : Bool) → IsOwn (if a then Ok Down else checked b (fault.Range Positive) Up)
own-named true b = tt
own-named false b = own-checked b (fault.Range Positive) Up tt

own-sense : (ms : Members) → IsOwn (sense_of ms)
own-sense ms = own-step (value_of Positive as_str None ms) sense_named (own-value Positive as_str None ms) (λ name. own-named (bytes_eq name (codes "down")) (bytes_eq name (codes "up")))

own-text : (key : Key) (test : List ℕ → Bool) (ms : Members) → IsOwn (value_of key as_str None ms >>= (λ text. checked (test text) (fault.Range key) text))
own-text key test ms = own-step (value_of key as_str None ms) _ (own-value key as_str None ms) (λ text. own-checked (test text) (fault.Range key) text tt)

own-zone : (b : Bool) (ms : Members) → IsOwn (if b then (number_of Catzoc 1 6 None ms >>= (λ zone. Ok (Some zone))) else Ok None)
own-zone true ms = own-step (number_of Catzoc 1 6 None ms) _ (own-number Catzoc 1 6 None ms) (λ zone. tt)
own-zone false ms = tt

own-table : (ms : Members) → IsOwn (sheet_of ms)
unfolding sheet_of
own-table ms =
    own-step (number_of Version 1 2 None ms) _ (own-number Version 1 2 None ms) (λ version.
    own-step (sense_of ms) _ (own-sense ms) (λ positive.
    own-step (levels_of ms) _ (own-levels ms) (λ levels.
    own-step (step_lists_of ms) _ (own-lists ms) (λ lists.
    own-step (disc_of ms) _ (own-disc ms) (λ disc.
    own-step (radii_of (length levels) ms) _ (own-radii (length levels) ms) (λ sounding_radius.
    own-step (cell_name_of ms) _ (own-text Name is_cell_name ms) (λ name.
    own-step (number_of Edition 1 999 None ms) _ (own-number Edition 1 999 None ms) (λ edition.
    own-step (issued_of ms) _ (own-text Issued is_day ms) (λ issued.
    own-step (number_of Agency 1 65535 None ms) _ (own-number Agency 1 65535 None ms) (λ agency.
    own-step (number_of Scale 1 100000000 None ms) _ (own-number Scale 1 100000000 None ms) (λ scale.
    own-step (number_of Usage 1 6 None ms) _ (own-number Usage 1 6 None ms) (λ usage.
    own-step (number_of VerticalDatum 1 254 None ms) _ (own-number VerticalDatum 1 254 None ms) (λ vertical_datum.
    own-step (number_of SoundingDatum 1 254 None ms) _ (own-number SoundingDatum 1 254 None ms) (λ sounding_datum.
    own-step (catzoc_of version ms) _ (own-zone (version == 2) ms) (λ catzoc.
    own-checked (all_known (keys_of version) ms) fault.Unknown _ tt)))))))))))))))

-- what was returned of a table isn't the fault of a text that is no TOML
pub not-toml : (ms : Members) (read : Read Sheet) → Gives sheet_view read (sheet_of ms) → read ≡ Err fault.Toml → ⊥
not-toml ms read h e =
    let is_toml : sheet_of ms ≡ Err fault.Toml = subst (λ r. Gives sheet_view r (sheet_of ms)) e h in
    subst IsOwn is_toml (own-table ms)

-- a sheet that was returned is one for which the text stands
pub stands-for : (text : List ℕ) (ms : Members) (read : Read Sheet) → Reads text ms → Gives sheet_view read (sheet_of ms) → IfOk read (λ s. StandsFor text (sheet_view s))
stands-for text ms (Ok s) r h = record { table = ms; reads = r; is_table = table-read ms (sheet_view s) h }
stands-for text ms (Err e) r h = tt

-- a sheet for which the text stands is returned
pub is-read : (text : List ℕ) (ms : Members) (sheet : SheetView) (read : Read Sheet) → Reads text ms → Gives sheet_view read (sheet_of ms) → StandsFor text sheet → Gives sheet_view read (Ok sheet)
is-read text ms sheet read r h s =
    let same : s.table ≡ ms = (let e : Some s.table ≡ Some ms = sym s.reads.1 ∙ r.1 in cc) in
    let value : sheet_of ms ≡ Ok sheet = subst (λ t. sheet_of t ≡ Ok sheet) same (table-reads s.table sheet s.is_table) in
    subst (λ x. Gives sheet_view read x) value h
