-- Links and triangles by name: a link is told by its two nodes, a triangle by two of its legs.
use Rattle.std.proofs.Common.{◌≡◌, ◌≢◌, ◌⊎◌, ⊎_elim, ℕ, ◌+◌, Bool, true, false, cond, refl, sym, ap, ap₂, ◌∙◌, arith}
use Rattle.mesh_definitions.specs.Mesh.{first, second}
use Rattle.mesh_definitions.specs.declared.Link.{Link}
use Rattle.mesh_definitions.specs.declared.Tri.{Tri}
use Rattle.mesh_definitions.specs.declared.Way.TheVariants.{Across, Down, Slant}
use Rattle.mesh_definitions.specs.declared.Way.{Way}
use Rattle.depth_grid.specs.declared.node.NodeId.{NodeId}
use Rattle.mesh_laws.proofs.Triangles.{tri}
use Rattle.mesh_lines_laws.proofs.Spots.{link, link_same}

-- ---- nodes of links

nodes_apart : (way : Way) (i j : ℕ) → first (link way i j) ≢ second (link way i j)
nodes_apart Across i j e = let c = ap (λ n. n.col) e in omega (arith, c)
nodes_apart Down i j e = let c = ap (λ n. n.row) e in omega (arith, c)
nodes_apart Slant i j e = let c = ap (λ n. n.row) e in omega (arith, c)

pub ends_apart : (l : Link) → first l ≢ second l
ends_apart l = nodes_apart l.way l.row l.col

abbrev rows_of : Link → ℕ
rows_of l = (first l).row + (second l).row

abbrev cols_of : Link → ℕ
cols_of l = (first l).col + (second l).col

by_sums : (v w : Way) (i j k m : ℕ) → rows_of (link v i j) ≡ rows_of (link w k m) → cols_of (link v i j) ≡ cols_of (link w k m) → link v i j ≡ link w k m
by_sums Across Across i j k m e g = ap₂ (link Across) (omega (arith, e)) (omega (arith, g))
by_sums Down Down i j k m e g = ap₂ (link Down) (omega (arith, e)) (omega (arith, g))
by_sums Slant Slant i j k m e g = ap₂ (link Slant) (omega (arith, e)) (omega (arith, g))
by_sums Across Down i j k m e g = absurd (omega (arith, e))
by_sums Across Slant i j k m e g = absurd (omega (arith, e))
by_sums Down Across i j k m e g = absurd (omega (arith, e))
by_sums Down Slant i j k m e g = absurd (omega (arith, g))
by_sums Slant Across i j k m e g = absurd (omega (arith, e))
by_sums Slant Down i j k m e g = absurd (omega (arith, g))

abbrev pub IsEnd : Link → NodeId → Type 0
IsEnd l n = (n ≡ first l) ⊎ (n ≡ second l)

-- two different nodes are the ends of a link in one order or the other
sums_of : (l : Link) (g : NodeId → ℕ) (n m : NodeId) → n ≢ m → IsEnd l n → IsEnd l m → g (first l) + g (second l) ≡ g n + g m
sums_of l g n m d p q = ⊎_elim
    (λ a. ⊎_elim (λ b. absurd (d (a ∙ sym b))) (λ b. let x = ap g a in let y = ap g b in omega (arith, x, y)) q)
    (λ a. ⊎_elim (λ b. let x = ap g a in let y = ap g b in omega (arith, x, y)) (λ b. absurd (d (a ∙ sym b))) q)
    p

pub by_nodes : (l k : Link) (n m : NodeId) → n ≢ m → IsEnd l n → IsEnd l m → IsEnd k n → IsEnd k m → l ≡ k
by_nodes l k n m d a b p q = by_sums l.way k.way l.row l.col k.row k.col
    (sums_of l (λ n. n.row) n m d a b ∙ sym (sums_of k (λ n. n.row) n m d p q))
    (sums_of l (λ n. n.col) n m d a b ∙ sym (sums_of k (λ n. n.col) n m d p q))

-- ---- legs of triangles

-- where the leg of each way stands
abbrev pub leg_row : Tri → Way → ℕ
leg_row t Across = cond t.upper t.row (t.row + 1)
leg_row t Down = t.row
leg_row t Slant = t.row

abbrev pub leg_col : Tri → Way → ℕ
leg_col t Across = t.col
leg_col t Down = cond t.upper t.col (t.col + 1)
leg_col t Slant = t.col

pub record LegOf (t : Tri) (l : Link) : Type 0 where
  pub row : l.row ≡ leg_row t l.way
  pub col : l.col ≡ leg_col t l.way

one_half : (u : Bool) (w : Way) (i j k m : ℕ) → leg_row (tri i j u) w ≡ leg_row (tri k m u) w → leg_col (tri i j u) w ≡ leg_col (tri k m u) w → tri i j u ≡ tri k m u
one_half true Across i j k m e g = ap₂ (λ a b. tri a b true) e g
one_half true Down i j k m e g = ap₂ (λ a b. tri a b true) e g
one_half true Slant i j k m e g = ap₂ (λ a b. tri a b true) e g
one_half false Across i j k m e g = ap₂ (λ a b. tri a b false) (omega (arith, e)) g
one_half false Down i j k m e g = ap₂ (λ a b. tri a b false) e (omega (arith, g))
one_half false Slant i j k m e g = ap₂ (λ a b. tri a b false) e g

-- where an upper and a lower triangle have a leg of each of two ways
record Shared (w : Way) (i j k m : ℕ) : Type 0 where
  row : leg_row (tri i j true) w ≡ leg_row (tri k m false) w
  col : leg_col (tri i j true) w ≡ leg_col (tri k m false) w

not_two : (v w : Way) (i j k m : ℕ) → v ≢ w → Shared v i j k m → Shared w i j k m → ⊥
not_two Across Across i j k m d a b = d refl
not_two Down Down i j k m d a b = d refl
not_two Slant Slant i j k m d a b = d refl
not_two Across Down i j k m d a b = let x = a.row in let y = b.row in omega (arith, x, y)
not_two Across Slant i j k m d a b = let x = a.row in let y = b.row in omega (arith, x, y)
not_two Down Across i j k m d a b = let x = a.row in let y = b.row in omega (arith, x, y)
not_two Slant Across i j k m d a b = let x = a.row in let y = b.row in omega (arith, x, y)
not_two Down Slant i j k m d a b = let x = a.col in let y = b.col in omega (arith, x, y)
not_two Slant Down i j k m d a b = let x = a.col in let y = b.col in omega (arith, x, y)

way_apart : (t : Tri) (l m : Link) → l ≢ m → LegOf t l → LegOf t m → l.way ≢ m.way
way_apart t l m d a b e = d (link_same l m e (a.row ∙ (ap (leg_row t) e ∙ sym b.row)) (a.col ∙ (ap (leg_col t) e ∙ sym b.col)))

pub by_legs : (t u : Tri) (l m : Link) → l ≢ m → LegOf t l → LegOf t m → LegOf u l → LegOf u m → t ≡ u
by_legs t u l m d a b p q = by t.upper u.upper t.row t.col u.row u.col a b p q
  where
    w : l.way ≢ m.way
    w = way_apart t l m d a b

    by : (x y : Bool) (i j r c : ℕ) → LegOf (tri i j x) l → LegOf (tri i j x) m → LegOf (tri r c y) l → LegOf (tri r c y) m → tri i j x ≡ tri r c y
    by true true i j r c a b p q = one_half true l.way i j r c (sym a.row ∙ p.row) (sym a.col ∙ p.col)
    by false false i j r c a b p q = one_half false l.way i j r c (sym a.row ∙ p.row) (sym a.col ∙ p.col)
    by true false i j r c a b p q = absurd (not_two l.way m.way i j r c w (record { row = sym a.row ∙ p.row; col = sym a.col ∙ p.col }) (record { row = sym b.row ∙ q.row; col = sym b.col ∙ q.col }))
    by false true i j r c a b p q = absurd (not_two l.way m.way r c i j w (record { row = sym p.row ∙ a.row; col = sym p.col ∙ a.col }) (record { row = sym q.row ∙ b.row; col = sym q.col ∙ b.col }))
