-- The definitions at a few worked cases.
use Rattle.std.proofs.Common.{◌≡◌, ℕ, pos, List, [], ◌∷◌, length, Some, None, Ok, Err, refl}
use Rattle.std.specs.Prelude.{codes}
use Rattle.chart_model.specs.declared.records.Attribute.{Attribute}
use Rattle.chart_model.specs.declared.records.Connected.{Connected}
use Rattle.chart_model.specs.declared.records.Edge.{Edge}
use Rattle.chart_model.specs.declared.records.Feature.{Feature}
use Rattle.chart_model.specs.declared.records.Pointer.{Pointer}
use Rattle.chart_model.specs.declared.records.Sounding.{Sounding}
use Rattle.plane_geom.specs.declared.Point.{Point}
use Rattle.record_edits.specs.Attributes.{attributes_after}
use Rattle.record_edits.specs.Edits.{connected_after, edge_after, feature_after}
use Rattle.update_reader.specs.declared.change.Edit.{Edit}
use Rattle.update_reader.specs.declared.fault.UpdateFault.TheVariants as fault

-- ---- attributes: DRVAL1 and DRVAL2

drval1 : List ℕ → Attribute
drval1 text = record { code = 87; text = text }

drval2 : List ℕ → Attribute
drval2 text = record { code = 88; text = text }

replaced_in_place : attributes_after (drval1 (codes "9.5") ∷ []) (drval1 (codes "5") ∷ drval2 (codes "10.1") ∷ []) ≡ drval1 (codes "9.5") ∷ drval2 (codes "10.1") ∷ []
unfolding drval1 drval2
replaced_in_place = refl

added_at_the_end : attributes_after (drval1 (codes "9.5") ∷ []) (drval2 (codes "10.1") ∷ []) ≡ drval2 (codes "10.1") ∷ drval1 (codes "9.5") ∷ []
unfolding drval1 drval2
added_at_the_end = refl

taken_out_once : attributes_after (drval1 (127 ∷ []) ∷ []) (drval1 (codes "5") ∷ drval1 (codes "6") ∷ []) ≡ drval1 (codes "6") ∷ []
unfolding drval1
taken_out_once = refl

not_there_to_take_out : attributes_after (drval1 (127 ∷ []) ∷ []) (drval2 (codes "10.1") ∷ []) ≡ drval2 (codes "10.1") ∷ []
unfolding drval1 drval2
not_there_to_take_out = refl

-- ---- points of an edge

at : ℕ → Point
at x = record { x = pos x; y = pos 0 }

abbrev edge : List Point → Edge
edge inner = record { rcid = 1; rver = 1; first = 1; last = 2; inner = inner }

abbrev modified_edge : List Point → Edge
modified_edge inner = record { rcid = 1; rver = 2; first = 1; last = 2; inner = inner }

abbrev of_points : ℕ → ℕ → List Point → List Sounding → Edit
of_points place going points soundings = record { attributes = []; splice = Some (record { place = place; going = going; coming = length points }); pointers = []; points = points; soundings = soundings }

inserted_before : edge_after 2 (of_points 1 0 (at 9 ∷ []) []) (edge (at 1 ∷ at 2 ∷ [])) ≡ Ok (modified_edge (at 9 ∷ at 1 ∷ at 2 ∷ []))
inserted_before = refl

inserted_at_the_end : edge_after 2 (of_points 3 0 (at 9 ∷ []) []) (edge (at 1 ∷ at 2 ∷ [])) ≡ Ok (modified_edge (at 1 ∷ at 2 ∷ at 9 ∷ []))
inserted_at_the_end = refl

inserted_too_far : edge_after 2 (of_points 4 0 (at 9 ∷ []) []) (edge (at 1 ∷ at 2 ∷ [])) ≡ Err (fault.Index 130 1)
inserted_too_far = refl

inserted_at_none : edge_after 2 (of_points 0 0 (at 9 ∷ []) []) (edge (at 1 ∷ at 2 ∷ [])) ≡ Err (fault.Index 130 1)
inserted_at_none = refl

deleted_all : edge_after 2 (of_points 1 2 [] []) (edge (at 1 ∷ at 2 ∷ [])) ≡ Ok (modified_edge [])
deleted_all = refl

deleted_too_many : edge_after 2 (of_points 2 2 [] []) (edge (at 1 ∷ at 2 ∷ [])) ≡ Err (fault.Index 130 1)
deleted_too_many = refl

deleted_none : edge_after 2 (of_points 1 0 [] []) (edge (at 1 ∷ at 2 ∷ [])) ≡ Err (fault.Index 130 1)
deleted_none = refl

replaced : edge_after 2 (of_points 2 1 (at 9 ∷ []) []) (edge (at 1 ∷ at 2 ∷ [])) ≡ Ok (modified_edge (at 1 ∷ at 9 ∷ []))
replaced = refl

-- ---- the point of a connected node

abbrev node : Connected
node = record { rcid = 1; rver = 1; at = at 1 }

moved : connected_after 2 (of_points 1 1 (at 9 ∷ []) []) node ≡ Ok (record { rcid = 1; rver = 2; at = at 9 })
moved = refl

second_point : connected_after 2 (of_points 2 0 (at 9 ∷ []) []) node ≡ Err (fault.Shape 120 1)
second_point = refl

no_point_left : connected_after 2 (of_points 1 1 [] []) node ≡ Err (fault.Shape 120 1)
no_point_left = refl

-- one sounding in place of one point: the number is right, the kind isn't
sounding_given : connected_after 2 (record { attributes = []; splice = Some (record { place = 1; going = 1; coming = 1 }); pointers = []; points = []; soundings = record { at = at 9; depth = pos 7 } ∷ [] }) node ≡ Err (fault.Shape 120 1)
sounding_given = refl

-- ---- the pointers of an area

abbrev pointer : ℕ → Pointer
pointer rcid = record { rcnm = 130; rcid = rcid; ornt = 1; usag = 1; mask = 255 }

abbrev area : ℕ → List Pointer → Feature
area rver pointers = record { rcid = 2; rver = rver; prim = 3; grup = 1; objl = 42; agen = 1; fidn = 1; fids = 1; attributes = []; pointers = pointers }

abbrev of_pointers : ℕ → ℕ → List Pointer → Edit
of_pointers place going pointers = record { attributes = []; splice = Some (record { place = place; going = going; coming = length pointers }); pointers = pointers; points = []; soundings = [] }

replaced_pointer : feature_after 2 (of_pointers 1 1 (pointer 5 ∷ [])) (area 1 (pointer 1 ∷ [])) ≡ Ok (area 2 (pointer 5 ∷ []))
replaced_pointer = refl

all_pointers_deleted : feature_after 2 (of_pointers 1 1 []) (area 1 (pointer 1 ∷ [])) ≡ Err (fault.Shape 100 2)
all_pointers_deleted = refl

pointer_too_far : feature_after 2 (of_pointers 3 0 (pointer 5 ∷ [])) (area 1 (pointer 1 ∷ [])) ≡ Err (fault.Index 100 2)
pointer_too_far = refl

nothing_said : feature_after 2 (record { attributes = []; splice = None; pointers = []; points = []; soundings = [] }) (area 1 (pointer 1 ∷ [])) ≡ Ok (area 2 (pointer 1 ∷ []))
nothing_said = refl
