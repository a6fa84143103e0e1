-- What features say, but for their numbers and names.
use Rattle.std.specs.Prelude.{◌≡◌, ℕ, List, ◌++◌, map}
use Rattle.chart_model.specs.declared.records.Attribute.{Attribute}
use Rattle.chart_model.specs.declared.records.Feature.{Feature}
use Rattle.chart_model.specs.declared.records.Pointer.{Pointer}
use Rattle.s57_codes.specs.Catalogue.{null}

-- PRIM, GRUP, object code, attributes and pointers
pub record FeatureContent : Type 0 where
  pub prim : ℕ
  pub grup : ℕ
  pub objl : ℕ
  pub attributes : List Attribute
  pub pointers : List Pointer

abbrev pub content_of : Feature → FeatureContent
content_of f = record { prim = f.prim; grup = f.grup; objl = f.objl; attributes = f.attributes; pointers = f.pointers }

-- features that say this are put at the end of a list
pub record Adds (drafts : List FeatureContent) (old new : List Feature) : Type 0 where
  pub added : List Feature
  pub say : map content_of added ≡ drafts
  pub behind : new ≡ old ++ added

-- a pointer to a record of which nothing more is said
abbrev pub pointer : ℕ → ℕ → ℕ → Pointer
pointer rcnm rcid ornt = record { rcnm = rcnm; rcid = rcid; ornt = ornt; usag = null; mask = null }
