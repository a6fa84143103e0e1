-- Counting of line ends, and the order of points.
use Rattle.std.proofs.Common.{◌≡◌, ℕ, ◌+◌, ◌<◌, ◌≤◌, min, List, None, Bool, true, false, nat_eq, length, get_or, set, take, count_by, ⊎_elim, refl, sym, ap, subst, ◌∙◌, arith, eq-eqb, ne_eqb, get_or-set_other, get_or-set_same, length-set, below_more}
use Rattle.std.proofs.lemmas.Bool.{cases_eq}
use Rattle.std.proofs.lemmas.Int.{ints}
use Rattle.std.proofs.lemmas.List.Sums.{count_by_more_yes, count_by_more_no}
use Rattle.list_counts.proofs.Ticks.{tick}
use Rattle.boundary_arcs.specs.ChainEdges.{CountsEnds}
use Rattle.chains.specs.declared.Line.{Line}
use Rattle.chains.specs.Nets.{line_at}
use Rattle.mesh_definitions.specs.Edges.{IsFirstOf}
use Rattle.plane_geom.specs.declared.Point.{Point}

-- what a read past the end gives
abbrev no_line : Line
no_line = record { begin = 0; end = 0; left = None; right = None }

count_more : {X : Type 0} (f : X → Bool) (xs : List X) (i : ℕ) (d : X) → i < length xs → count_by f (take (i + 1) xs) ≡ count_by f (take i xs) + tick (f (get_or xs i d))
count_more f xs i d l = go (f (get_or xs i d)) refl
  where
    go : (b : Bool) → f (get_or xs i d) ≡ b → count_by f (take (i + 1) xs) ≡ count_by f (take i xs) + tick b
    go true e = omega (arith, count_by_more_yes f xs i d l e)
    go false e = omega (arith, count_by_more_no f xs i d l e)

-- a table of counts up to 255 with one more at a place
bumped : (xs : List ℕ) (q p : ℕ) → q < length xs → get_or xs p 0 ≤ 255 → get_or (set xs q (min (get_or xs q 0 + 1) 255)) p 0 ≡ min (get_or xs p 0 + tick (nat_eq q p)) 255
bumped xs q p l small = ⊎_elim
    (λ e. subst (λ z. get_or (set xs q (min (get_or xs q 0 + 1) 255)) z 0 ≡ min (get_or xs z 0 + tick (nat_eq q z)) 255) e (get_or-set_same xs q (min (get_or xs q 0 + 1) 255) 0 l ∙ ap (λ b. min (get_or xs q 0 + tick b) 255) (sym (eq-eqb q q refl))))
    (λ d. get_or-set_other xs q p (min (get_or xs q 0 + 1) 255) 0 (λ e. d (sym e)) ∙ stays ∙ ap (λ b. min (get_or xs p 0 + tick b) 255) (sym (ne_eqb q p d)))
    (cases_eq q p)
  where
    stays : get_or xs p 0 ≡ min (get_or xs p 0 + 0) 255
    stays = omega arith

-- the ends of one line more are counted
pub counted_more : (lines : List Line) (points i : ℕ) (ends ends1 ends2 : List ℕ) (line : Line) → CountsEnds (take i lines) points ends → i < length lines → line ≡ line_at lines i → line.begin < points → line.end < points → ends1 ≡ set ends line.begin (min (get_or ends line.begin 0 + 1) 255) → ends2 ≡ set ends1 line.end (min (get_or ends1 line.end 0 + 1) 255) → CountsEnds (take (i + 1) lines) points ends2
counted_more lines points i ends ends1 ends2 line had l is lb le e1 e2 =
    let w1 : length ends1 ≡ points = ap length e1 ∙ length-set ends line.begin _ ∙ had.wide in
    record {
      wide = ap length e2 ∙ length-set ends1 line.end _ ∙ w1;
      counts = λ p lp.
          let a = had.counts p lp in
          let x : get_or ends1 p 0 ≡ min (get_or ends p 0 + tick (nat_eq line.begin p)) 255 = ap (λ z. get_or z p 0) e1 ∙ bumped ends line.begin p (omega (arith, had.wide)) (omega (arith, a)) in
          let y : get_or ends2 p 0 ≡ min (get_or ends1 p 0 + tick (nat_eq line.end p)) 255 = ap (λ z. get_or z p 0) e2 ∙ bumped ends1 line.end p (omega (arith, w1)) (omega (arith, x)) in
          let b = ap (λ z. tick (nat_eq z.begin p)) is in
          let c = ap (λ z. tick (nat_eq z.end p)) is in
          omega (arith, a, x, y, b, c, count_more (λ z. nat_eq z.begin p) lines i no_line l, count_more (λ z. nat_eq z.end p) lines i no_line l);
    }

-- a point comes before itself
pub first_of_itself : (p : Point) → IsFirstOf p p
first_of_itself p = grind (arith, ints)

-- one that comes before another comes before what that comes before
pub first_of_all : (p q r : Point) → IsFirstOf p q → IsFirstOf q r → IsFirstOf p r
first_of_all p q r h k = grind (arith, ints)

-- of two points one comes before the other
pub first_of_either : (p q : Point) → (IsFirstOf p q → ⊥) → IsFirstOf q p
first_of_either p q n = grind (arith, ints)

-- the least of some points is so with one more that it comes before
pub still_least : (f : ℕ → Point) (least i : ℕ) → ((j : ℕ) → j < i → IsFirstOf (f least) (f j)) → IsFirstOf (f least) (f i) → (j : ℕ) → j < i + 1 → IsFirstOf (f least) (f j)
still_least f least i h k = below_more (λ j. IsFirstOf (f least) (f j)) i h k

-- and else that one is the least
pub new_least : (f : ℕ → Point) (least i : ℕ) → ((j : ℕ) → j < i → IsFirstOf (f least) (f j)) → (IsFirstOf (f least) (f i) → ⊥) → (j : ℕ) → j < i + 1 → IsFirstOf (f i) (f j)
new_least f least i h n = below_more (λ j. IsFirstOf (f i) (f j)) i (λ j l. first_of_all (f i) (f least) (f j) (first_of_either (f least) (f i) n) (h j l)) (first_of_itself (f i))
