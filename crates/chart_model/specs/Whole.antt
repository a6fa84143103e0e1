-- When parts are a chart, and the first cause why they are none.
use Rattle.std.specs.Prelude.{◌≡◌, ◌≢◌, ℕ, ◌<◌, ◌^◌, Bool, true, ◌&&◌, ◌||◌, not, cond, eqb, nat_lt, IsTrue, Option, Some, ◌⊎◌, option_map, List, length, All, AllPairs}
use Rattle.std.specs.List.{list_all}
use Rattle.std.specs.Option.{option_or}
use Rattle.chart_model.specs.Closed.{is_open_area, open_area}
use Rattle.chart_model.specs.Numbers.{repeated, isolated_numbers, connected_numbers, edge_numbers, feature_numbers}
use Rattle.chart_model.specs.References.{names, stands, lost_of}
use Rattle.chart_model.specs.declared.records.Attribute.{Attribute}
use Rattle.chart_model.specs.declared.records.Feature.{Feature}
use Rattle.chart_model.specs.declared.records.Header.{Header}
use Rattle.chart_model.specs.declared.records.Isolated.{Isolated}
use Rattle.chart_model.specs.declared.fault.PartFault.TheVariants.{Twice, Lost, Unclosed, NoMemory}
use Rattle.chart_model.specs.declared.fault.PartFault.{PartFault}
use Rattle.chart_model.specs.declared.records.Parts.{Parts}
use Rattle.chart_model.specs.declared.records.Pointer.{Pointer}
use Rattle.chart_model.specs.declared.records.Shape.TheVariants.{One, Soundings}
use Rattle.chart_model.specs.declared.records.Shape.{Shape}
use Rattle.s57_codes.specs.Catalogue.{null, prim_area, prim_line, prim_point, rcnm_connected_node, rcnm_edge, rcnm_feature, rcnm_isolated_node}
use Rattle.chart_model.specs.declared.lost.Name.{Name}

-- ---- the conditions of parts

-- a text: it doesn't have the byte that ends one
abbrev pub IsText : List ℕ → Type 0
IsText bytes = All (λ b. b ≢ 31) bytes

pub record HasTexts (h : Header) : Type 0 where
  pub dsnm : IsText h.dsnm
  pub edtn : IsText h.edtn
  pub updn : IsText h.updn
  pub psdn : IsText h.psdn
  pub pred : IsText h.pred
  pub comt : IsText h.comt
  pub note : IsText h.note

-- an isolated node has one position, or at least one sounding
abbrev pub has_some : Isolated → Bool
has_some n = go n.shape
  where
    go : Shape → Bool
    go (One p) = true
    go (Soundings list) = nat_lt 0 (length list)

-- a feature points at what its PRIM is made of: nodes, or edges, at least one; or it is NOTHING and has no pointers
abbrev pub is_made : Feature → Bool
is_made f =
    cond (eqb f.prim null) (eqb (length f.pointers) 0)
    (nat_lt 0 (length f.pointers)
    && (cond (eqb f.prim prim_point) (list_all (λ (p : Pointer). eqb p.rcnm rcnm_isolated_node || eqb p.rcnm rcnm_connected_node) f.pointers)
    ((eqb f.prim prim_line || eqb f.prim prim_area) && list_all (λ (p : Pointer). eqb p.rcnm rcnm_edge) f.pointers)))

-- the conditions of parts
pub record IsWellFormed (c : Parts) : Type 0 where
  pub header : HasTexts c.header
  pub attributes : All (λ (f : Feature). All (λ (a : Attribute). IsText a.text) f.attributes) c.features
  pub soundings : All (λ n. IsTrue (has_some n)) c.isolated
  pub made : All (λ f. IsTrue (is_made f)) c.features
  pub few_isolated : length c.isolated < 2 ^ 32
  pub few_connected : length c.connected < 2 ^ 32
  pub few_edges : length c.edges < 2 ^ 32
  pub few_features : length c.features < 2 ^ 32

-- ---- whole parts

-- parts that are a chart: the conditions, no number twice in a list, nothing named that isn't there, no area that doesn't close
pub record IsWhole (c : Parts) : Type 0 where
  pub well_formed : IsWellFormed c
  pub isolated_once : AllPairs ◌≢◌ (isolated_numbers c)
  pub connected_once : AllPairs ◌≢◌ (connected_numbers c)
  pub edges_once : AllPairs ◌≢◌ (edge_numbers c)
  pub features_once : AllPairs ◌≢◌ (feature_numbers c)
  pub found : All (λ n. IsTrue (stands c n)) (names c)
  pub closed : All (λ f. IsTrue (not (is_open_area c f))) c.features

-- ---- the first cause

-- a number that stands twice in a list of one kind
abbrev pub twice : ℕ → List ℕ → Option PartFault
twice rcnm ns = option_map (Twice rcnm) (repeated ns)

-- the first record, list by list, whose number stood before in its list
abbrev pub first_twice : Parts → Option PartFault
first_twice c =
    option_or (twice rcnm_isolated_node (isolated_numbers c))
    (option_or (twice rcnm_connected_node (connected_numbers c))
    (option_or (twice rcnm_edge (edge_numbers c))
    (twice rcnm_feature (feature_numbers c))))

-- the first pointer to nothing, and the first area that doesn't close
abbrev pub first_lost : Parts → Option PartFault
first_lost c = option_map (λ (n : Name). Lost n.rcnm n.rcid) (lost_of c (names c))

abbrev pub first_open : Parts → Option PartFault
first_open c = option_map (λ (f : Feature). Unclosed f.rcid) (open_area c)

-- the first cause why parts are no chart: a number that stands twice, then a pointer to nothing, then an open area
abbrev pub first_fault : Parts → Option PartFault
first_fault c = option_or (first_twice c) (option_or (first_lost c) (first_open c))

-- an answer of refusal: want of memory, or the cause that is due
abbrev pub Refuses : Option PartFault → PartFault → Type 0
Refuses due e = (e ≡ NoMemory) ⊎ (due ≡ Some e)
