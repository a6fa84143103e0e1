-- What pointers tell of where edges lie.
use Rattle.std.specs.Prelude.{◌≡◌, Bool}
use Rattle.built_parts.specs.Areas.{mask_of, usag_of}
use Rattle.built_parts.specs.declared.EdgePlace.TheVariants.{Border}
use Rattle.built_parts.specs.declared.EdgePlace.{EdgePlace}
use Rattle.s57_codes.specs.Catalogue.{null, usag_truncated}

-- the same USAG and MASK on any ring: only on the border of the coverage is an edge truncated, and its MASK is null there
pub record IsBorder (exterior : Bool) (line : EdgePlace) : Type 0 where
  pub usag : usag_of exterior line ≡ usag_truncated
  pub mask : mask_of line ≡ null

abbrev pub KnowsWhere : Type 0
KnowsWhere = (exterior : Bool) → IsBorder exterior Border
