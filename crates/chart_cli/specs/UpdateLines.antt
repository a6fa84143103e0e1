-- The lines of updates.
use Rattle.std.specs.Prelude.{codes, ℕ, List, [], ◌++◌, decimal}
use Rattle.update_reader.specs.declared.fault.UpdateFault.{UpdateFault}
use Rattle.update_reader.specs.declared.fault.UpdateFault.TheVariants as fault

-- the line of a cell that was revised: how many records the update has behind its data set record, and the cell's length
abbrev pub revised_line : ℕ → ℕ → List ℕ
revised_line records len = codes "applied " ++ (decimal records ++ (codes " records bytes " ++ (decimal len ++ codes "\n")))

-- ---- refusals

-- the place of a fault
abbrev pub update_at_text : List ℕ → ℕ → List ℕ
update_at_text number at = codes "refused update " ++ (number ++ (codes " at " ++ (decimal at ++ codes "\n")))

-- the name of a record
abbrev pub update_name_text : List ℕ → ℕ → ℕ → List ℕ
update_name_text number rcnm rcid = codes "refused update " ++ (number ++ (codes " " ++ (decimal rcnm ++ (codes " " ++ (decimal rcid ++ codes "\n")))))

-- the line of a refusal: its number, and its place or record
abbrev pub update_refusal : UpdateFault → List ℕ
update_refusal (fault.Short at) = update_at_text (codes "1") at
update_refusal (fault.Leader at) = update_at_text (codes "2") at
update_refusal (fault.Directory at) = update_at_text (codes "3") at
update_refusal (fault.Field at) = update_at_text (codes "4") at
update_refusal (fault.Kind at) = update_at_text (codes "5") at
update_refusal (fault.Value at) = update_at_text (codes "6") at
update_refusal fault.Sequence = codes "refused update 7\n"
update_refusal (fault.There rcnm rcid) = update_name_text (codes "8") rcnm rcid
update_refusal (fault.Missing rcnm rcid) = update_name_text (codes "9") rcnm rcid
update_refusal (fault.Version rcnm rcid) = update_name_text (codes "10") rcnm rcid
update_refusal (fault.Index rcnm rcid) = update_name_text (codes "11") rcnm rcid
update_refusal (fault.Shape rcnm rcid) = update_name_text (codes "12") rcnm rcid
update_refusal (fault.Lost rcnm rcid) = update_name_text (codes "13") rcnm rcid
update_refusal (fault.Unclosed rcid) = codes "refused update 14 " ++ (decimal rcid ++ codes "\n")
update_refusal fault.Large = codes "refused update 15\n"
update_refusal fault.NoMemory = []
