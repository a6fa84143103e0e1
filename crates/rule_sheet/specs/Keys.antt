-- The keys of a sheet and their names.
use Rattle.std.specs.Prelude.{codes, ℕ, Bool, true, ◌&&◌, List, [], ◌∷◌, ◌++◌, ◌==◌, if◌then◌else◌}
use Rattle.std.specs.List.{list_any}
use Rattle.std.specs.Str.{bytes_eq}
use Rattle.toml.specs.Data.{Members, no_members, member}
use Rattle.rule_sheet.specs.declared.key.Key.{Key}
use Rattle.rule_sheet.specs.declared.key.Key.TheVariants.{Version, Positive, Levels, StepFrom, Steps, Aspect, DiscRadius, SoundingRadius, Name, Edition, Issued, Agency, Scale, Usage, VerticalDatum, SoundingDatum, Catzoc}

abbrev pub name_of : Key → List ℕ
name_of Version = codes "version"
name_of Positive = codes "positive"
name_of Levels = codes "levels"
name_of StepFrom = codes "step_from"
name_of Steps = codes "steps"
name_of Aspect = codes "aspect"
name_of DiscRadius = codes "disc_radius"
name_of SoundingRadius = codes "sounding_radius"
name_of Name = codes "name"
name_of Edition = codes "edition"
name_of Issued = codes "issued"
name_of Agency = codes "agency"
name_of Scale = codes "scale"
name_of Usage = codes "usage"
name_of VerticalDatum = codes "vertical_datum"
name_of SoundingDatum = codes "sounding_datum"
name_of Catzoc = codes "catzoc"

-- the keys of version 1
abbrev pub first_keys : List Key
first_keys = Version ∷ Positive ∷ Levels ∷ StepFrom ∷ Steps ∷ Aspect ∷ DiscRadius ∷ SoundingRadius ∷ Name ∷ Edition ∷ Issued ∷ Agency ∷ Scale ∷ Usage ∷ VerticalDatum ∷ SoundingDatum ∷ []

-- a sheet of version 2 has one key more
abbrev pub keys_of : ℕ → List Key
keys_of version = if version == 2 then first_keys ++ Catzoc ∷ [] else first_keys

-- the name is that of one of the keys
abbrev pub is_known : List Key → List ℕ → Bool
is_known keys name = list_any (λ key. bytes_eq name (name_of key)) keys

-- each name of a table is
abbrev pub all_known : List Key → Members → Bool
all_known keys no_members = true
all_known keys (member name d ms) = is_known keys name && all_known keys ms
