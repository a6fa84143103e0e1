-- What a sheet's text stands for.
use Rattle.std.proofs.Common.{◌≡◌, ℕ, Bool, true, false, List, Option, Some, None, Result, Ok, Err, if◌then◌else◌, refl, sym, ◌∙◌}
use Rattle.std.proofs.lemmas.Bool.{false≢true}
use Rattle.std.proofs.lemmas.Str.{IsUtf8-from_is_utf8, is_utf8-from_IsUtf8}
use Rattle.std.specs.Str.{is_utf8}
use Rattle.toml.specs.Data.{Members}
use Rattle.toml.specs.Parse.{parse_document}
use Rattle.rule_sheet.specs.Sheet.{Reads, Gives, sheet_of, IsTomlOrMemory}
use Rattle.rule_sheet.specs.Views.{sheet_view}
use Rattle.rule_sheet.specs.declared.fault.SheetFault.{SheetFault}
use Rattle.rule_sheet.specs.declared.fault.SheetFault.TheVariants.{Toml, Missing, Kind, Range, Order, Unknown, NoMemory}
use Rattle.rule_sheet.specs.declared.sheet.Sheet.{Sheet}
use Rattle.chart_cli.specs.Reads.{sheet_from, sheet_reading}

toml_fails : (result : Result Sheet SheetFault) → IsTomlOrMemory result → Gives sheet_view result (Err Toml)
toml_fails (Ok sheet) h = absurd h
toml_fails (Err Toml) h = refl
toml_fails (Err (Missing key)) h = absurd h
toml_fails (Err (Kind key)) h = absurd h
toml_fails (Err (Range key)) h = absurd h
toml_fails (Err (Order key)) h = absurd h
toml_fails (Err Unknown) h = absurd h
toml_fails (Err NoMemory) h = tt

given_by : (text : List ℕ) (result : Result Sheet SheetFault) → ((table : Members) → Reads text table → Gives sheet_view result (sheet_of table)) → (((table : Members) → Reads text table → ⊥) → IsTomlOrMemory result)
    → (valid : Bool) (document : Option Members) → is_utf8 text ≡ valid → parse_document text ≡ document → Gives sheet_view result (sheet_from (if valid then document else None))
given_by text result exact only true (Some table) u p = exact table (IsUtf8-from_is_utf8 text u, p)
given_by text result exact only true None u p = toml_fails result (only (λ table reads. cc (p, reads.1)))
given_by text result exact only false document u p = toml_fails result (only (λ table reads. false≢true (sym u ∙ is_utf8-from_IsUtf8 text reads.0)))

-- what reading a sheet answers is what its text gives
pub sheet_given : (text : List ℕ) (result : Result Sheet SheetFault) → ((table : Members) → Reads text table → Gives sheet_view result (sheet_of table))
    → (((table : Members) → Reads text table → ⊥) → IsTomlOrMemory result) → Gives sheet_view result (sheet_reading text)
sheet_given text result exact only = given_by text result exact only (is_utf8 text) (parse_document text) refl refl
