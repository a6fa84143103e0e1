-- The numbers of a chart's areas, contours and soundings.
use Rattle.std.specs.Prelude.{◌≡◌, ℕ, ◌≤◌, eqb, cond, List, [], filter, flat_map, length, sum_by, count_by, Option, Some, None, option_to_list, All}
use Rattle.chart_model.specs.Areas.{areas, is_area}
use Rattle.chart_model.specs.Lines.{isolated_at}
use Rattle.s57_codes.specs.Catalogue.{objl_depcnt, objl_soundg, rcnm_isolated_node}
use Rattle.chart_model.specs.declared.counts.Tally.{Tally}
use Rattle.chart_model.specs.declared.records.Edge.{Edge}
use Rattle.chart_model.specs.declared.records.Feature.{Feature}
use Rattle.chart_model.specs.declared.records.Isolated.{Isolated}
use Rattle.chart_model.specs.declared.records.Parts.{Parts}
use Rattle.chart_model.specs.declared.records.Pointer.{Pointer}
use Rattle.chart_model.specs.declared.records.Shape.TheVariants.{One, Soundings}
use Rattle.chart_model.specs.declared.records.Shape.{Shape}
use Rattle.chart_model.specs.declared.records.Sounding.{Sounding}

-- the soundings of an isolated node
abbrev pub soundings_of : Isolated → List Sounding
soundings_of n = go n.shape
  where
    go : Shape → List Sounding
    go (One p) = []
    go (Soundings list) = list

-- how many soundings a pointer adds: those of the isolated node that it names
abbrev pub soundings_at : Parts → Pointer → ℕ
soundings_at c p = cond (eqb p.rcnm rcnm_isolated_node) (go (isolated_at c p.rcid)) 0
  where
    go : Option Isolated → ℕ
    go None = 0
    go (Some n) = length (soundings_of n)

-- how many a feature adds: each of its pointers adds, where it is of soundings
abbrev pub soundings_in : Parts → Feature → ℕ
soundings_in c f = cond (eqb f.objl objl_soundg) (sum_by (soundings_at c) f.pointers) 0

-- the areas of group 1, the contours, and the soundings, each time that a pointer names them, as sums
abbrev pub tally_of : Parts → Tally
tally_of c = record { areas = count_by is_area c.features; contours = count_by (λ (f : Feature). eqb f.objl objl_depcnt) c.features; soundings = sum_by (soundings_in c) c.features }

-- ---- the same in plain words: the lists of what is counted

-- the contours
abbrev pub contours : Parts → List Feature
contours c = filter (λ (f : Feature). eqb f.objl objl_depcnt) c.features

-- the features of soundings
abbrev pub sounding_features : Parts → List Feature
sounding_features c = filter (λ (f : Feature). eqb f.objl objl_soundg) c.features

-- the soundings that a pointer names: those of the isolated node with its number, where it points at an isolated node
abbrev pub pointer_soundings : Parts → Pointer → List Sounding
pointer_soundings c p = cond (eqb p.rcnm rcnm_isolated_node) (flat_map soundings_of (option_to_list (isolated_at c p.rcid))) []

-- all soundings that features of soundings name, feature by feature and pointer by pointer, each time that it is named
abbrev pub named_soundings : Parts → List Sounding
named_soundings c = flat_map (λ (f : Feature). flat_map (pointer_soundings c) f.pointers) (sounding_features c)

-- a tally says how many areas of group 1, contours and named soundings there are
pub record IsTally (c : Parts) (t : Tally) : Type 0 where
  pub areas : t.areas ≡ length (areas c)
  pub contours : t.contours ≡ length (contours c)
  pub soundings : t.soundings ≡ length (named_soundings c)

-- ---- charts whose tally can be computed

-- lists that records of at most 99,999 bytes can hold
pub record IsMeasured (c : Parts) : Type 0 where
  pub pointers : All (λ (f : Feature). length f.pointers ≤ 12500) c.features
  pub soundings : All (λ n. length (soundings_of n) ≤ 12500) c.isolated
  pub inner : All (λ (e : Edge). length e.inner ≤ 12500) c.edges
