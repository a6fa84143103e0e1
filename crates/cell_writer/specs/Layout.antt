-- The cell that a chart is written as: its records in order, and the fields of each (S-57 Edition 3.1, Part 3).
use Rattle.std.specs.Prelude.{ℕ, ◌+◌, ◌%◌, Bool, ◌&&◌, not, nat_le, nat_lt, List, [], ◌∷◌, ◌++◌, length, map, count_by}
use Rattle.std.specs.List.{flat_map, list_all}
use Rattle.chart_model.specs.declared.records.Attribute.{Attribute}
use Rattle.chart_model.specs.declared.records.Connected.{Connected}
use Rattle.chart_model.specs.declared.records.Edge.{Edge}
use Rattle.chart_model.specs.declared.records.Feature.{Feature}
use Rattle.chart_model.specs.declared.records.Header.{Header}
use Rattle.chart_model.specs.declared.records.Isolated.{Isolated}
use Rattle.chart_model.specs.declared.records.Parts.{Parts}
use Rattle.chart_model.specs.declared.records.Pointer.{Pointer}
use Rattle.chart_model.specs.declared.records.Shape.{Shape}
use Rattle.chart_model.specs.declared.records.Shape.TheVariants.{One, Soundings}
use Rattle.chart_model.specs.declared.records.Sounding.{Sounding}
use Rattle.iso8211_codec.specs.First.{first}
use Rattle.iso8211_codec.specs.Layout.{size, lens_of, record_of}
use Rattle.iso8211_codec.specs.Reading.{Part}
use Rattle.plane_geom.specs.declared.Point.{Point}
use Rattle.s57_codes.specs.Catalogue.{rcnm_data_set, rcnm_parameters, rcnm_feature, rcnm_isolated_node, rcnm_connected_node, rcnm_edge, topi_beginning, topi_end, null, inserted, tag_0001, tag_dsid, tag_dssi, tag_dspm, tag_vrid, tag_vrpt, tag_sg2d, tag_sg3d, tag_frid, tag_foid, tag_attf, tag_fspt}
use Rattle.s57_records.specs.Fields.{dsid, dssi, dspm, vrid, vrpt, sg2d, sg3d, frid, foid, attribute, fspt}
use Rattle.s57_records.specs.Formats.{Format, b12, Value, N, Z, T, field_of}

-- ---- fields

-- a field of one group of subfields, and the byte that ends it
abbrev pub field : List ℕ → List Format → List Value → Part
field tag fs vs = record { tag = tag; bytes = field_of fs vs ++ 30 ∷ [] }

-- a field that repeats a group
abbrev pub groups : List ℕ → List Format → List (List Value) → Part
groups tag fs list = record { tag = tag; bytes = flat_map (field_of fs) list ++ 30 ∷ [] }

-- the same where there is a group, else no field
abbrev pub some_groups : List ℕ → List Format → List (List Value) → List Part
some_groups tag fs [] = []
some_groups tag fs (vs ∷ list) = groups tag fs (vs ∷ list) ∷ []

-- the low 16 bits of the place of a data record in the file, counted from 1
abbrev pub id : ℕ → Part
id n = field tag_0001 (b12 ∷ []) (N (n % 65536) ∷ [])

-- ---- the data set and its parameters

abbrev pub dsid_of : Header → List Value
dsid_of h =
    N rcnm_data_set ∷ N 1 ∷ N h.expp ∷ N h.intu ∷ T h.dsnm ∷ T h.edtn ∷ T h.updn ∷ T h.uadt ∷ T h.isdt ∷ T h.sted
    ∷ N h.prsp ∷ T h.psdn ∷ T h.pred ∷ N h.prof ∷ N h.agen ∷ T h.comt ∷ []

-- How many features have an object code from one number to below another. Meta objects have the codes from 300 to 399,
-- cartographic objects those to 499, collections those to 599 (S-57, Appendix A).
abbrev pub objects : ℕ → ℕ → List Feature → ℕ
objects low high features = count_by (λ (f : Feature). nat_le low f.objl && nat_lt f.objl high) features

-- how many are none of these
abbrev pub geo_objects : List Feature → ℕ
geo_objects features = count_by (λ (f : Feature). not (nat_le 300 f.objl && nat_lt f.objl 600)) features

-- DSTR 2 is chain-node topology; then levels, and the numbers of meta objects, collections, geo objects, cartographic
-- objects, isolated nodes, connected nodes, edges and faces
abbrev pub dssi_of : Parts → List Value
dssi_of c =
    N 2 ∷ N c.header.aall ∷ N c.header.nall
    ∷ N (objects 300 400 c.features) ∷ N (objects 500 600 c.features) ∷ N (geo_objects c.features) ∷ N (objects 400 500 c.features)
    ∷ N (length c.isolated) ∷ N (length c.connected) ∷ N (length c.edges) ∷ N 0 ∷ []

-- depths in metres (DUNI 1) of ten parts, positions in degrees (COUN 1) of ten million parts
abbrev pub dspm_of : Header → List Value
dspm_of h =
    N rcnm_parameters ∷ N 1 ∷ N h.hdat ∷ N h.vdat ∷ N h.sdat ∷ N h.cscl ∷ N 1 ∷ N h.huni ∷ N h.puni ∷ N 1 ∷ N 10000000 ∷ N 10 ∷ T h.note ∷ []

abbrev pub data_set_parts : ℕ → Parts → List Part
data_set_parts n c = id n ∷ field tag_dsid dsid (dsid_of c.header) ∷ field tag_dssi dssi (dssi_of c) ∷ []

abbrev pub parameter_parts : ℕ → Header → List Part
parameter_parts n h = id n ∷ field tag_dspm dspm (dspm_of h) ∷ []

-- ---- vector records

-- RUIN: the record is inserted
abbrev pub vector_values : ℕ → ℕ → ℕ → List Value
vector_values rcnm rcid rver = N rcnm ∷ N rcid ∷ N rver ∷ N inserted ∷ []

abbrev pub vector : ℕ → ℕ → ℕ → Part
vector rcnm rcid rver = field tag_vrid vrid (vector_values rcnm rcid rver)

abbrev pub point_values : Point → List Value
point_values p = Z p.y ∷ Z p.x ∷ []

abbrev pub sounding_values : Sounding → List Value
sounding_values s = Z s.at.y ∷ Z s.at.x ∷ Z s.depth ∷ []

abbrev pub shape_part : Shape → Part
shape_part (One p) = groups tag_sg2d sg2d (point_values p ∷ [])
shape_part (Soundings list) = groups tag_sg3d sg3d (map sounding_values list)

abbrev pub isolated_parts : ℕ → Isolated → List Part
isolated_parts n node = id n ∷ vector rcnm_isolated_node node.rcid node.rver ∷ shape_part node.shape ∷ []

abbrev pub connected_parts : ℕ → Connected → List Part
connected_parts n node = id n ∷ vector rcnm_connected_node node.rcid node.rver ∷ groups tag_sg2d sg2d (point_values node.at ∷ []) ∷ []

-- a pointer of an edge to the node at one of its ends; its TOPI says at which
abbrev pub end_values : ℕ → ℕ → List Value
end_values topi rcid = N rcnm_connected_node ∷ N rcid ∷ N null ∷ N null ∷ N topi ∷ N null ∷ []

abbrev pub edge_parts : ℕ → Edge → List Part
edge_parts n e =
    id n ∷ vector rcnm_edge e.rcid e.rver ∷ groups tag_vrpt vrpt (end_values topi_beginning e.first ∷ end_values topi_end e.last ∷ [])
    ∷ some_groups tag_sg2d sg2d (map point_values e.inner)

-- ---- features

abbrev pub frid_of : Feature → List Value
frid_of f = N rcnm_feature ∷ N f.rcid ∷ N f.prim ∷ N f.grup ∷ N f.objl ∷ N f.rver ∷ N inserted ∷ []

abbrev pub foid_of : Feature → List Value
foid_of f = N f.agen ∷ N f.fidn ∷ N f.fids ∷ []

abbrev pub attribute_values : Attribute → List Value
attribute_values a = N a.code ∷ T a.text ∷ []

abbrev pub pointer_values : Pointer → List Value
pointer_values p = N p.rcnm ∷ N p.rcid ∷ N p.ornt ∷ N p.usag ∷ N p.mask ∷ []

abbrev pub feature_parts : ℕ → Feature → List Part
feature_parts n f =
    id n ∷ field tag_frid frid (frid_of f) ∷ field tag_foid foid (foid_of f)
    ∷ (some_groups tag_attf attribute (map attribute_values f.attributes) ++ some_groups tag_fspt fspt (map pointer_values f.pointers))

-- ---- the file

-- the records of a list, the first of which has a place among the data records of the file
abbrev pub numbered : {X : Type 0} → (ℕ → X → List Part) → ℕ → List X → List (List Part)
numbered parts n [] = []
numbered parts n (x ∷ xs) = parts n x ∷ numbered parts (n + 1) xs

-- the vector records: isolated nodes, connected nodes, edges
abbrev pub vector_records : Parts → List (List Part)
vector_records c =
    numbered isolated_parts 3 c.isolated
    ++ (numbered connected_parts (3 + length c.isolated) c.connected
    ++ numbered edge_parts (3 + (length c.isolated + length c.connected)) c.edges)

abbrev pub feature_records : Parts → List (List Part)
feature_records c = numbered feature_parts (3 + (length c.isolated + (length c.connected + length c.edges))) c.features

-- the data records
abbrev pub records : Parts → List (List Part)
records c = data_set_parts 1 c ∷ parameter_parts 2 c.header ∷ (vector_records c ++ feature_records c)

-- the bytes of the cell
unfoldable pub layout : Parts → List ℕ
layout c = first ++ flat_map record_of (records c)

-- a record of at most 99,999 bytes
abbrev pub is_short : List Part → Bool
is_short parts = nat_lt (size (lens_of parts)) 100000

-- whether each record of the chart is as short
unfoldable pub fits_of : Parts → Bool
fits_of c = list_all is_short (records c)
