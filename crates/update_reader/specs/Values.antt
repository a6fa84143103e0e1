-- What the records of an update say; None where a field isn't of its format, or a value isn't one that an update may have.
-- Of a record that is deleted only the identifier is looked at.
use Rattle.std.specs.Prelude.{ℕ, Bool, ◌&&◌, ◌||◌, not, eqb, cond, List, [], ◌∷◌, length, Option, Some, None, option_map}
use Rattle.std.specs.Option.{is_some}
use Rattle.chart_model.specs.declared.records.Attribute.{Attribute}
use Rattle.chart_model.specs.declared.records.Connected.{Connected}
use Rattle.chart_model.specs.declared.records.Edge.{Edge}
use Rattle.chart_model.specs.declared.records.Isolated.{Isolated}
use Rattle.chart_model.specs.declared.records.Sounding.{Sounding}
use Rattle.iso8211_codec.specs.Reading.{Seen}
use Rattle.plane_geom.specs.declared.Point.{Point}
use Rattle.readings.specs.Finds.{◌>>=◌}
use Rattle.s57_codes.specs.Catalogue.{expp_revision, inserted, deleted, modified, rcnm_connected_node, rcnm_feature, rcnm_isolated_node, tag_foid, tag_fspc, tag_fspt, tag_sg2d, tag_sg3d, tag_sgcc, tag_vrpc, tag_vrpt}
use Rattle.s57_records.specs.Fields.{vrid, frid, fspc, sgcc}
use Rattle.s57_records.specs.Formats.{Value, N, T, values_in}
use Rattle.s57_records.specs.declared.feature.Frid.{Frid}
use Rattle.s57_records.specs.declared.pointer.Vrpt.{Vrpt}
use Rattle.s57_records.specs.declared.vrid.Vrid.{Vrid}
use Rattle.record_values.specs.Attributes.{attributes}
use Rattle.record_values.specs.DataSets.{identity_in}
use Rattle.record_values.specs.Features.{name_in, feature_of}
use Rattle.record_values.specs.Fields.{only, are_whole}
use Rattle.record_values.specs.Groups.{points, soundings, ends, pointers}
use Rattle.record_values.specs.Vectors.{has_whole_groups, isolated_of, connected_of, edge_of}
use Rattle.update_reader.specs.Controls.{splice}
use Rattle.update_reader.specs.Kinds.{has_field}
use Rattle.update_reader.specs.declared.change.Issue.{Issue}
use Rattle.update_reader.specs.declared.change.Edit.{Edit}
use Rattle.update_reader.specs.declared.change.Change.{Change}
use Rattle.update_reader.specs.declared.change.Deed.TheVariants.{Insert, Delete, Modify}
use Rattle.update_reader.specs.declared.change.Change.TheVariants.{OfIsolated, OfConnected, OfEdges, OfFeatures}
use Rattle.update_reader.specs.declared.change.Splice.{Splice}

abbrev pub is_empty : {X : Type 0} → List X → Bool
is_empty xs = eqb (length xs) 0

-- ---- which update it is: its EXPP is that of a revision

abbrev pub issue_of : List Value → Option Issue
issue_of (N rcnm ∷ N rcid ∷ N expp ∷ N intu ∷ T dsnm ∷ T edtn ∷ T updn ∷ T uadt ∷ T isdt ∷ values) =
    cond (eqb expp expp_revision) (Some (record { edtn = edtn; updn = updn; uadt = uadt; isdt = isdt })) None
issue_of _ = None

abbrev pub issue_in : List ℕ → Option Issue
issue_in body = identity_in body >>= issue_of

-- ---- identifiers

abbrev pub vrid_of : List Value → Option Vrid
vrid_of (N rcnm ∷ N rcid ∷ N rver ∷ N ruin ∷ []) = Some (record { rcnm = rcnm; rcid = rcid; rver = rver; ruin = ruin })
vrid_of _ = None

abbrev pub vrid_in : List ℕ → Option Vrid
vrid_in body = values_in vrid body >>= vrid_of

-- FRID of the record of a feature
abbrev pub frid_of : List Value → Option Frid
frid_of (N rcnm ∷ N rcid ∷ N prim ∷ N grup ∷ N objl ∷ N rver ∷ N ruin ∷ []) =
    cond (eqb rcnm rcnm_feature) (Some (record { rcnm = rcnm; rcid = rcid; prim = prim; grup = grup; objl = objl; rver = rver; ruin = ruin })) None
frid_of _ = None

abbrev pub frid_in : List ℕ → Option Frid
frid_in body = values_in frid body >>= frid_of

-- what an update instruction (RUIN) asks for
abbrev pub by_instruction : {X : Type 0} → ℕ → Option X → Option X → Option X → Option X
by_instruction ruin insertion deletion modification =
    cond (eqb ruin inserted) insertion (cond (eqb ruin deleted) deletion (cond (eqb ruin modified) modification None))

-- ---- which fields stand in a record that is inserted or modified, by their tags alone

-- an inserted record says nothing of how items change
abbrev pub is_plain : List Seen → Bool
is_plain fields = not (has_field tag_fspc fields || has_field tag_sgcc fields)

-- a modified one gives no ends of an edge, and no pointers without saying how these change
abbrev pub is_change : List Seen → Bool
is_change fields = not (has_field tag_vrpt fields || has_field tag_vrpc fields) && (has_field tag_fspc fields || not (has_field tag_fspt fields))

-- ---- vector records

-- by the RCNM of a node or an edge
abbrev pub of_kind : {X : Type 0} → ℕ → X → X → X → X
of_kind rcnm isolated connected edge = cond (eqb rcnm rcnm_isolated_node) isolated (cond (eqb rcnm rcnm_connected_node) connected edge)

-- the node or the edge of these groups is inserted
abbrev pub vector_insertion : Vrid → List Vrpt → List Point → List Sounding → Option Change
vector_insertion v ends points soundings = of_kind v.rcnm
    (option_map (λ (n : Isolated). OfIsolated (Insert n)) (isolated_of v points soundings))
    (option_map (λ (n : Connected). OfConnected (Insert n)) (connected_of v points soundings))
    (option_map (λ (e : Edge). OfEdges (Insert e)) (edge_of v ends points soundings))

abbrev pub inserted_vector : Vrid → List Seen → Option Change
inserted_vector v fields = cond (is_plain fields && has_whole_groups fields) (vector_insertion v (ends fields) (points fields) (soundings fields)) None

abbrev pub deleted_vector : Vrid → Change
deleted_vector v = of_kind v.rcnm (OfIsolated (Delete v.rcid v.rver)) (OfConnected (Delete v.rcid v.rver)) (OfEdges (Delete v.rcid v.rver))

abbrev pub vector_edit : Option Splice → List Seen → Edit
vector_edit control fields = record { attributes = []; splice = control; pointers = []; points = points fields; soundings = soundings fields }

-- points or soundings are given, not both, and neither without saying how they change
abbrev pub is_controlled : Edit → Bool
is_controlled e = (is_empty e.points && is_empty e.soundings) || (is_some e.splice && (is_empty e.points || is_empty e.soundings))

abbrev pub vector_modification : Vrid → Edit → Change
vector_modification v e = of_kind v.rcnm (OfIsolated (Modify v.rcid v.rver e)) (OfConnected (Modify v.rcid v.rver e)) (OfEdges (Modify v.rcid v.rver e))

-- the points and soundings of a modified record are whole, and go with how they change
abbrev pub controlled : Edit → List Seen → Bool
controlled e fields = is_change fields && (are_whole 8 tag_sg2d fields && (are_whole 12 tag_sg3d fields && is_controlled e))

abbrev pub modified_vector : Vrid → List Seen → Option Change
modified_vector v fields = do
  control ← splice sgcc tag_sgcc fields
  cond (controlled (vector_edit control fields) fields) (Some (vector_modification v (vector_edit control fields))) None

-- the change of a vector record with this body of VRID
unfoldable pub vector_change : List ℕ → List Seen → Option Change
vector_change body fields = do
  v ← vrid_in body
  by_instruction v.ruin (inserted_vector v fields) (Some (deleted_vector v)) (modified_vector v fields)

-- ---- feature records

abbrev pub inserted_feature : Frid → List Seen → Option Change
inserted_feature f fields = do
  name ← only tag_foid fields >>= name_in
  new ← feature_of f name fields
  cond (is_plain fields) (Some (OfFeatures (Insert new))) None

-- FOID of a modified feature, where it has one, is of its format
abbrev pub is_well_named : List Seen → Bool
is_well_named fields = not (has_field tag_foid fields) || is_some (only tag_foid fields >>= name_in)

abbrev pub feature_edit : Option Splice → List Attribute → List Seen → Edit
feature_edit control texts fields = record { attributes = texts; splice = control; pointers = pointers fields; points = []; soundings = [] }

-- FOID, PRIM, GRUP and OBJL of a modified feature are read and not used
abbrev pub modified_feature : Frid → List Seen → Option Change
modified_feature f fields = do
  control ← splice fspc tag_fspc fields
  texts ← attributes fields
  cond (is_change fields && (is_well_named fields && are_whole 8 tag_fspt fields)) (Some (OfFeatures (Modify f.rcid f.rver (feature_edit control texts fields)))) None

-- the change of a feature record with this body of FRID
unfoldable pub feature_change : List ℕ → List Seen → Option Change
feature_change body fields = do
  f ← frid_in body
  by_instruction f.ruin (inserted_feature f fields) (Some (OfFeatures (Delete f.rcid f.rver))) (modified_feature f fields)
