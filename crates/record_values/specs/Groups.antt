-- What the fields that repeat a group give: points, soundings and pointers (S-57 Edition 3.1, Part 3, 7.6.8 and 7.7.1).
use Rattle.std.specs.Prelude.{ℕ, ◌/◌, List, [], ◌∷◌, length, Option, Some, None, flat_map, option_to_list}
use Rattle.std.specs.List.{range_with_len}
use Rattle.chart_model.specs.declared.records.Pointer.{Pointer}
use Rattle.chart_model.specs.declared.records.Sounding.{Sounding}
use Rattle.iso8211_codec.specs.Reading.{Seen}
use Rattle.plane_geom.specs.declared.Point.{Point}
use Rattle.s57_records.specs.Fields.{sg2d, sg3d, vrpt, fspt}
use Rattle.readings.specs.Finds.{◌>>=◌}
use Rattle.s57_records.specs.Formats.{Value, N, Z, values_of_group}
use Rattle.s57_records.specs.declared.pointer.Vrpt.{Vrpt}
use Rattle.s57_codes.specs.Catalogue.{tag_fspt, tag_sg2d, tag_sg3d, tag_vrpt}
use Rattle.record_values.specs.Fields.{bodies}

-- what is there under each of the numbers from 0 to below n
abbrev pub each : {X : Type 0} → (ℕ → Option X) → ℕ → List X
each f n = flat_map (λ k. option_to_list (f k)) (range_with_len 0 n)

-- ---- the value of a group

abbrev pub point_of : List Value → Option Point
point_of (Z y ∷ Z x ∷ []) = Some (record { x = x; y = y })
point_of _ = None

abbrev pub sounding_of : List Value → Option Sounding
sounding_of (Z y ∷ Z x ∷ Z depth ∷ []) = Some (record { at = record { x = x; y = y }; depth = depth })
sounding_of _ = None

abbrev pub end_of : List Value → Option Vrpt
end_of (N rcnm ∷ N rcid ∷ N ornt ∷ N usag ∷ N topi ∷ N mask ∷ []) = Some (record { rcnm = rcnm; rcid = rcid; ornt = ornt; usag = usag; topi = topi; mask = mask })
end_of _ = None

abbrev pub pointer_of : List Value → Option Pointer
pointer_of (N rcnm ∷ N rcid ∷ N ornt ∷ N usag ∷ N mask ∷ []) = Some (record { rcnm = rcnm; rcid = rcid; ornt = ornt; usag = usag; mask = mask })
pointer_of _ = None

-- ---- group k of a body

abbrev pub point_at : List ℕ → ℕ → Option Point
point_at body k = values_of_group sg2d k body >>= point_of

abbrev pub sounding_at : List ℕ → ℕ → Option Sounding
sounding_at body k = values_of_group sg3d k body >>= sounding_of

abbrev pub end_at : List ℕ → ℕ → Option Vrpt
end_at body k = values_of_group vrpt k body >>= end_of

abbrev pub pointer_at : List ℕ → ℕ → Option Pointer
pointer_at body k = values_of_group fspt k body >>= pointer_of

-- ---- all groups of a body, and those of all fields of a record with the tag

abbrev pub points_in : List ℕ → List Point
points_in body = each (point_at body) (length body / 8)

abbrev pub soundings_in : List ℕ → List Sounding
soundings_in body = each (sounding_at body) (length body / 12)

abbrev pub ends_in : List ℕ → List Vrpt
ends_in body = each (end_at body) (length body / 9)

abbrev pub pointers_in : List ℕ → List Pointer
pointers_in body = each (pointer_at body) (length body / 8)

abbrev pub points : List Seen → List Point
points fields = flat_map points_in (bodies tag_sg2d fields)

abbrev pub soundings : List Seen → List Sounding
soundings fields = flat_map soundings_in (bodies tag_sg3d fields)

abbrev pub ends : List Seen → List Vrpt
ends fields = flat_map ends_in (bodies tag_vrpt fields)

abbrev pub pointers : List Seen → List Pointer
pointers fields = flat_map pointers_in (bodies tag_fspt fields)
