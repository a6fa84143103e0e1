-- Disjoint sets of items as a forest: what is given, what joining two sets changes, and what their numbering says.
-- Items are numbers here as in the code; a way up is a relation, where the code walks along a list of parents.
use Rattle.std.specs.Prelude.{◌≡◌, ℕ, ◌<◌, ◌≤◌, ◌⊎◌, ◌↔◌, List, slice_index, length}

-- each item has a parent that isn't greater than itself, and a parent's number fits in a word
pub record IsForest (parents : List ℕ) : Type 0 where
  pub falls : (p : ℕ) → p < length parents → slice_index parents p ≤ p
  pub few : length parents ≤ 4294967295

-- an item leads to a root: it is one, its own parent, or its parent leads there
pub data Leads (parents : List ℕ) : ℕ → ℕ → Type 0 where
  At : {p : ℕ} → p < length parents → slice_index parents p ≡ p → Leads parents p p
  Up : {p r : ℕ} → p < length parents → slice_index parents p < p → Leads parents (slice_index parents p) r → Leads parents p r

-- the roots that items lead to stay as they were
pub record KeepsRoots (old new : List ℕ) : Type 0 where
  pub each : length new ≡ length old
  pub there : (p r : ℕ) → Leads old p r → Leads new p r
  pub back : (p r : ℕ) → Leads new p r → Leads old p r

-- two items are of one set: they lead to one root
abbrev pub IsTogether : List ℕ → ℕ → ℕ → Type 0
IsTogether parents p q = (r : ℕ) × Leads parents p r × Leads parents q r

-- the sets of two items have become one, and no others
pub record AreJoined (old new : List ℕ) (a b : ℕ) : Type 0 where
  pub keeps : (p q : ℕ) → IsTogether old p q → IsTogether new p q
  pub joins : IsTogether new a b
  pub only : (p q : ℕ) → IsTogether new p q → IsTogether old p q ⊎ ((IsTogether old p a × IsTogether old q b) ⊎ (IsTogether old p b × IsTogether old q a))

-- each item has a number below `count`, each of these is some item's, and two items have one number exactly where they are of one set
pub record NumbersSets (parents numbers : List ℕ) (count : ℕ) : Type 0 where
  pub each : length numbers ≡ length parents
  pub below : (p : ℕ) → p < length parents → slice_index numbers p < count
  pub used : (k : ℕ) → k < count → (p : ℕ) × (p < length parents) × (slice_index numbers p ≡ k)
  pub joined : (p q : ℕ) → p < length parents → q < length parents → (slice_index numbers p ≡ slice_index numbers q) ↔ IsTogether parents p q
