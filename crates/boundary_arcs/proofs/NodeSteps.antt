-- One edge is made after another.
use Rattle.std.proofs.Common.{◌≡◌, ℕ, zero, suc, ◌+◌, ◌<◌, ◌≤◌, List, [], ◌∷◌, ◌++◌, Bool, true, false, nat_eq, Some, length, get_or, map, take, if◌then◌else◌, sym, ap, subst, ◌∙◌, arith}
use Rattle.std.specs.List.{list_any, AllZip}
use Rattle.std.specs.Prelude.{All, slice_get}
use Rattle.std.proofs.lemmas.List.{length_push, take_more, get_or-map}
use Rattle.std.proofs.lemmas.List.Elements.{All-push}
use Rattle.boundary_arcs.specs.ChainEdges.{AddsNodes, HasNumbers}
use Rattle.boundary_arcs.specs.declared.arc.Arc.{Arc}
use Rattle.boundary_arcs.proofs.Zips.{AllZip-add, AllZip-weaker}
use Rattle.chains.specs.declared.Half.{Half}
use Rattle.chains.specs.declared.Line.{Line}
use Rattle.indexmap.specs.IndexSet.{insert_key}

get_push : {X : Type 0} (xs : List X) (y : X) (i : ℕ) (p : X) → slice_get xs i ≡ Some p → slice_get (xs ++ y ∷ []) i ≡ Some p
get_push [] y i p e = absurd (grind (arith, e))
get_push (x ∷ xs) y zero p e = e
get_push (x ∷ xs) y (suc i) p e = get_push xs y i p e

-- the numbers of nodes stay when one more is put in, if it isn't there
module _ (points : ℕ) (nodes : List ℕ) (p : ℕ) where
  pub inserted_stays : (i q : ℕ) → slice_get nodes i ≡ Some q → slice_get (insert_key nat_eq nodes p) i ≡ Some q
  inserted_stays i q e = go (list_any (nat_eq p) nodes)
    where
      go : (b : Bool) → slice_get (if b then nodes else nodes ++ p ∷ []) i ≡ Some q
      go true = e
      go false = get_push nodes p i q e

  inserted_few : length (insert_key nat_eq nodes p) ≤ length nodes + 1
  inserted_few = go (list_any (nat_eq p) nodes)
    where
      go : (b : Bool) → length (if b then nodes else nodes ++ p ∷ []) ≤ length nodes + 1
      go true = omega arith
      go false = omega (arith, length_push nodes p)

  inserted_inside : p < points → All (λ q. q < points) nodes → All (λ q. q < points) (insert_key nat_eq nodes p)
  inserted_inside l h = go (list_any (nat_eq p) nodes)
    where
      go : (b : Bool) → All (λ q. q < points) (if b then nodes else nodes ++ p ∷ [])
      go true = h
      go false = All-push (λ q. q < points) nodes p h l

-- two nodes are put in
pub two_inserted : (points : ℕ) (nodes nodes1 nodes2 : List ℕ) (p q : ℕ) → p < points → q < points → nodes1 ≡ insert_key nat_eq nodes p → nodes2 ≡ insert_key nat_eq nodes1 q → AddsNodes points nodes nodes2
two_inserted points nodes nodes1 nodes2 p q lp lq e f = record {
  kept = λ i x h.
      let one : slice_get nodes1 i ≡ Some x = ap (λ z. slice_get z i) e ∙ inserted_stays points nodes p i x h in
      ap (λ z. slice_get z i) f ∙ inserted_stays points nodes1 q i x one;
  few = omega (arith, ap length e, ap length f, inserted_few points nodes p, inserted_few points nodes1 q);
  inside = λ h.
      let one = subst (All (λ x. x < points)) (sym e) (inserted_inside points nodes p lp h) in
      subst (All (λ x. x < points)) (sym f) (inserted_inside points nodes1 q lq one);
}

-- edges with one more, along the next chain
module _ {P : Type 0} (R : List P → Arc → List Half → Type 0) (stays : (nodes nodes' : List P) → ((i : ℕ) (p : P) → slice_get nodes i ≡ Some p → slice_get nodes' i ≡ Some p) → (a : Arc) (chain : List Half) → R nodes a chain → R nodes' a chain) where
  pub edges_more : (nodes nodes' : List P) → ((i : ℕ) (p : P) → slice_get nodes i ≡ Some p → slice_get nodes' i ≡ Some p) → (arcs arcs' : List Arc) (chains : List (List Half)) (i : ℕ) (a : Arc) → i < length chains → AllZip (R nodes) arcs (take i chains) → R nodes' a (get_or chains i []) → arcs' ≡ arcs ++ a ∷ [] → AllZip (R nodes') arcs' (take (i + 1) chains)
  edges_more nodes nodes' kept arcs arcs' chains i a l h r e =
      subst (λ z. AllZip (R nodes') z (take (i + 1) chains)) (sym e)
      (subst (AllZip (R nodes') (arcs ++ a ∷ [])) (sym (take_more chains i [] l))
      (AllZip-add (R nodes') arcs (take i chains) a (get_or chains i []) (AllZip-weaker (R nodes) (R nodes') (stays nodes nodes' kept) arcs (take i chains) h) r))

-- what is read of a list, seen as of another
pub read_of : {X Y : Type 0} (f : X → Y) (e : Y) (xs : List X) (i : ℕ) (v d : X) → i < length xs → v ≡ get_or xs i d → f v ≡ get_or (map f xs) i e
read_of f e xs i v d l h = ap f h ∙ sym (get_or-map f xs i d e l)

-- an edge keeps its numbers where nodes stay
pub numbers_stay : (lines : List Line) (nodes nodes' : List ℕ) → ((i p : ℕ) → slice_get nodes i ≡ Some p → slice_get nodes' i ≡ Some p) → (a : Arc) (chain : List Half) → HasNumbers nodes lines a chain → HasNumbers nodes' lines a chain
numbers_stay lines nodes nodes' kept a chain h = record { begins = kept _ _ h.begins; ends = kept _ _ h.ends }
