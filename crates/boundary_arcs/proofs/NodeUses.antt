-- As edges are made one after another, each node is one where an edge begins or ends.
use Rattle.std.proofs.Common.{◌≡◌, ℕ, zero, suc, ◌<◌, ◌≤◌, List, [], ◌∷◌, ◌++◌, Bool, true, false, nat_eq, Some, length, get_or, if◌then◌else◌, ◌⊎◌, inl, inr, ⊎_elim, refl, sym, subst, ◌∙◌, arith}
use Rattle.std.specs.List.{list_any}
use Rattle.std.specs.Prelude.{slice_get}
use Rattle.std.proofs.lemmas.Bool.{cases_lt}
use Rattle.std.proofs.lemmas.List.{length_push, get_or_append_left, get_or_push}
use Rattle.std.proofs.lemmas.Option.{get_or_from_slice_get, slice_get_within}
use Rattle.boundary_arcs.specs.ChainEdges.{UsesNew, UsesEach}
use Rattle.boundary_arcs.specs.Edges.{IsUsed}
use Rattle.boundary_arcs.specs.declared.arc.Arc.{Arc}
use Rattle.boundary_arcs.proofs.Keeping.{no_arc}
use Rattle.indexmap.specs.IndexSet.{insert_key}

-- a number that stands in a list is found there
found : (xs : List ℕ) (n p : ℕ) → n < length xs → get_or xs n 0 ≡ p → list_any (nat_eq p) xs ≡ true
found [] n p l e = absurd (omega (arith, l))
found (x ∷ xs) zero p l e = grind (arith, e)
found (x ∷ xs) (suc n) p l e = grind (arith, found xs n p (omega (arith, l)) e)

-- the number of a node that is put in is the last, where a node comes new
inserted_last : (nodes : List ℕ) (p n node : ℕ) → slice_get (insert_key nat_eq nodes p) n ≡ Some p → node < length (insert_key nat_eq nodes p) → (node < length nodes) ⊎ (n ≡ node)
inserted_last nodes p n node = go (list_any (nat_eq p) nodes) refl
  where
    new : list_any (nat_eq p) nodes ≡ false → slice_get (nodes ++ p ∷ []) n ≡ Some p → length nodes ≤ n
    new e h = ⊎_elim
        (λ m.
        let at : get_or nodes n 0 ≡ p = sym (get_or_append_left nodes (p ∷ []) 0 n m) ∙ get_or_from_slice_get (nodes ++ p ∷ []) n p 0 h in
        absurd (grind (arith, e, found nodes n p m at)))
        (λ m. m)
        (cases_lt n (length nodes))

    go : (b : Bool) → list_any (nat_eq p) nodes ≡ b → slice_get (if b then nodes else nodes ++ p ∷ []) n ≡ Some p → node < length (if b then nodes else nodes ++ p ∷ []) → (node < length nodes) ⊎ (n ≡ node)
    go true e h l = inl l
    go false e h l = ⊎_elim
        (λ m. inl m)
        (λ m. inr (omega (arith, m, l, length_push nodes p, new e h, slice_get_within (nodes ++ p ∷ []) n p h)))
        (cases_lt node (length nodes))

-- two nodes are put in, those of an edge
pub two_used : (nodes nodes1 nodes2 : List ℕ) (p q begin end : ℕ) → nodes1 ≡ insert_key nat_eq nodes p → slice_get nodes1 begin ≡ Some p → nodes2 ≡ insert_key nat_eq nodes1 q → slice_get nodes2 end ≡ Some q
    → (node : ℕ) → node < length nodes2 → (node < length nodes) ⊎ ((begin ≡ node) ⊎ (end ≡ node))
two_used nodes nodes1 nodes2 p q begin end e h f g node l =
    ⊎_elim
    (λ m. ⊎_elim (λ k. inl k) (λ k. inr (inl k))
    (inserted_last nodes p begin node (subst (λ z. slice_get z begin ≡ Some p) e h) (subst (λ z. node < length z) e m)))
    (λ m. inr (inr m))
    (inserted_last nodes1 q end node (subst (λ z. slice_get z end ≡ Some q) f g) (subst (λ z. node < length z) f l))

-- a node that is used is used among more edges
used_stays : (arcs : List Arc) (a : Arc) (node : ℕ) → IsUsed arcs node → IsUsed (arcs ++ a ∷ []) node
used_stays arcs a node u = record {
  arc = u.arc;
  there = omega (arith, u.there, length_push arcs a);
  ends_there = subst (λ (x : Arc). (x.begin ≡ node) ⊎ (x.end ≡ node)) (sym (get_or_append_left arcs (a ∷ []) no_arc u.arc u.there)) u.ends_there;
}

-- a node where the last edge begins or ends is used
used_last : (arcs : List Arc) (a : Arc) (node : ℕ) → (a.begin ≡ node) ⊎ (a.end ≡ node) → IsUsed (arcs ++ a ∷ []) node
used_last arcs a node h = record {
  arc = length arcs;
  there = omega (arith, length_push arcs a);
  ends_there = subst (λ (x : Arc). (x.begin ≡ node) ⊎ (x.end ≡ node)) (sym (get_or_push arcs a no_arc (length arcs) refl)) h;
}

-- nodes stay used with one more edge and its nodes
pub used_more : (nodes nodes' : List ℕ) (arcs arcs' : List Arc) (a : Arc) → UsesEach nodes arcs → UsesNew nodes nodes' a → arcs' ≡ arcs ++ a ∷ [] → UsesEach nodes' arcs'
used_more nodes nodes' arcs arcs' a each new e node l =
    subst (λ z. IsUsed z node) (sym e) (⊎_elim (λ m. used_stays arcs a node (each node m)) (used_last arcs a node) (new node l))
