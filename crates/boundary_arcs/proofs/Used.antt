-- Which edge begins or ends at a node.
use Rattle.std.proofs.Common.{◌≡◌, ℕ, zero, suc, ◌<◌, List, [], ◌∷◌, Bool, true, false, nat_eq, ◌||◌, length, ◌⊎◌, inl, inr, refl, arith}
use Rattle.std.proofs.Math.Bool.{Bool-set}
use Rattle.std.proofs.Math.Logic.{∥∥₁_elim}
use Rattle.std.specs.List.{list_any}
use Rattle.boundary_arcs.specs.Edges.{IsUsed, AreUsed, arc_of}
use Rattle.boundary_arcs.specs.declared.arc.Arc.{Arc}
use Rattle.plane_geom.specs.declared.Point.{Point}

-- an edge begins or ends at a node
abbrev meets : ℕ → Arc → Bool
meets node a = nat_eq a.begin node || nat_eq a.end node

-- a test finds the edge
found : (node : ℕ) (arcs : List Arc) (k : ℕ) → k < length arcs → ((arc_of arcs k).begin ≡ node) ⊎ ((arc_of arcs k).end ≡ node) → list_any (meets node) arcs ≡ true
found node [] k l h = absurd (omega (arith, l))
found node (a ∷ arcs) zero l (inl e) = grind (arith, e)
found node (a ∷ arcs) zero l (inr e) = grind (arith, e)
found node (a ∷ arcs) (suc k) l h = grind (arith, found node arcs k (omega (arith, l)) h)

-- with one more edge before the others a node stays used
later : (node : ℕ) (a : Arc) (arcs : List Arc) → IsUsed arcs node → IsUsed (a ∷ arcs) node
later node a arcs u = record { arc = suc u.arc; there = omega (arith, u.there); ends_there = u.ends_there }

-- where the test says so, there is such an edge
met : (node : ℕ) (arcs : List Arc) → list_any (meets node) arcs ≡ true → IsUsed arcs node
met node [] h = absurd (grind (arith, h))
met node (a ∷ arcs) h = go (nat_eq a.begin node) (nat_eq a.end node) refl refl (met node arcs)
  where
    go : (b c : Bool) → nat_eq a.begin node ≡ b → nat_eq a.end node ≡ c → (list_any (meets node) arcs ≡ true → IsUsed arcs node) → IsUsed (a ∷ arcs) node
    go true c e f more = record { arc = 0; there = omega arith; ends_there = inl (grind (arith, e)) }
    go false true e f more = record { arc = 0; there = omega arith; ends_there = inr (grind (arith, f)) }
    go false false e f more = later node a arcs (more (grind (arith, h, e, f)))

-- at each node an edge begins or ends, and which one can be said
pub used_at : (nodes : List Point) (arcs : List Arc) → AreUsed nodes arcs → (node : ℕ) → node < length nodes → IsUsed arcs node
used_at nodes arcs used node l = met node arcs (∥∥₁_elim (used node l) (Bool-set _ _) (λ u. found node arcs u.arc u.there u.ends_there))
