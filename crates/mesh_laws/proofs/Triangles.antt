-- Triangles of a rectangle, and which of them lies on the right of a walked link.
use Rattle.std.proofs.Common.{◌≡◌, ◌≢◌, ℕ, zero, suc, ◌+◌, ◌<◌, ◌≤◌, ℤ, pos, ◌+ℤ◌, Bool, true, false, cond, not, ◌&&◌, eqb, Some, None, List, [], ◌∷◌, ◌++◌, refl, ap, ap₂, sym, ◌∙◌, arith}
use Rattle.std.proofs.lemmas.Bool.Decides.{nat_tests}
use Rattle.std.proofs.lemmas.Int.{ints}
use Rattle.std.proofs.lemmas.Bool.{and_parts}
use Rattle.mesh_definitions.specs.Mesh.{Walk, has_cell, legs, right_tri, links, each_place}
use Rattle.mesh_definitions.specs.declared.Link.{Link}
use Rattle.mesh_definitions.specs.declared.Rect.{Rect}
use Rattle.mesh_definitions.specs.declared.Tri.{Tri}
use Rattle.mesh_definitions.specs.declared.Way.TheVariants.{Across, Down, Slant}
use Rattle.mesh_definitions.specs.declared.Way.{Way}
use Rattle.mesh_laws.proofs.Places.{total_places}
use Rattle.plane_laws.specs.Borders.{total, within}
use Rattle.plane_laws.proofs.Sums.{total-append}

-- whether two triangles are the same
abbrev pub same_tri : Tri → Tri → Bool
same_tri t u = (eqb t.row u.row && eqb t.col u.col) && cond t.upper u.upper (not u.upper)

abbrev pub tri : ℕ → ℕ → Bool → Tri
tri i j u = record { row = i; col = j; upper = u }

-- a link by name, walked
abbrev pub walk : Way → ℕ → ℕ → Bool → Walk
walk way i j forward = record { link = record { way = way; row = i; col = j }; forward = forward }

eq_bool : (a b : Bool) → cond a b (not b) ≡ true → a ≡ b
eq_bool true true h = refl
eq_bool true false h = sym h
eq_bool false true h = h
eq_bool false false h = refl

self_bool : (a : Bool) → cond a a (not a) ≡ true
self_bool true = refl
self_bool false = refl

eq_num : (a b : ℕ) → eqb a b ≡ true → a ≡ b
eq_num a b h = grind (arith, nat_tests)

pub self_num : (a : ℕ) → eqb a a ≡ true
self_num a = grind (arith, nat_tests)

pub tri_is : (t u : Tri) → same_tri t u ≡ true → t ≡ u
tri_is t u h =
    let p = and_parts (eqb t.row u.row && eqb t.col u.col) (cond t.upper u.upper (not u.upper)) h in
    let q = and_parts (eqb t.row u.row) (eqb t.col u.col) p.0 in
    let a = eq_num t.row u.row q.0 in
    let b = eq_num t.col u.col q.1 in
    let c = eq_bool t.upper u.upper p.1 in
    ap (λ i. tri i t.col t.upper) a ∙ (ap (λ j. tri u.row j t.upper) b ∙ ap (λ v. tri u.row u.col v) c)

pub tri_self : (t : Tri) → same_tri t t ≡ true
tri_self t = rw (self_num t.row, self_num t.col, self_bool t.upper) refl

-- ---- cells

pub record IsCell (r : Rect) (i j : ℕ) : Type 0 where
  pub north : r.row ≤ i
  pub south : i < r.row + r.rows
  pub west : r.col ≤ j
  pub east : j < r.col + r.cols

pub is_cell : (r : Rect) (i j : ℕ) → has_cell r i j ≡ true → IsCell r i j
is_cell r i j h = grind (arith, nat_tests)

pub cell_has : (r : Rect) (i j : ℕ) → IsCell r i j → has_cell r i j ≡ true
cell_has r i j c = let a = c.north in let b = c.south in let d = c.west in let e = c.east in grind (arith, nat_tests)

-- ---- the triangle on the right of a walked link

-- whether it is this one
abbrev pub on_right : Rect → Tri → Walk → Bool
on_right r t w = within (same_tri t) (right_tri r w)

-- whether a half of cell (i, j) of a rectangle is this triangle
abbrev seen : Rect → Tri → ℕ → ℕ → Bool → Bool
seen r t i j u = has_cell r i j && same_tri t (tri i j u)

of_cell : (F : Tri → Bool) (b : Bool) (t : Tri) → within F (cond b (Some t) None) ≡ (b && F t)
of_cell F true t = refl
of_cell F false t = refl

and_false : (b : Bool) → (b && false) ≡ false
and_false true = refl
and_false false = refl

other_num : (a b : ℕ) → b ≢ a → eqb a b ≡ false
other_num a b h = grind (arith, nat_tests)

off_row : (r : Rect) (t : Tri) (i j : ℕ) (u : Bool) → i ≢ t.row → seen r t i j u ≡ false
off_row r t i j u h = rw (other_num t.row i h) (and_false (has_cell r i j))

off_col : (r : Rect) (t : Tri) (i j : ℕ) (u : Bool) → j ≢ t.col → seen r t i j u ≡ false
off_col r t i j u h = rw (other_num t.col j h, and_false (eqb t.row i)) (and_false (has_cell r i j))

off_half : (r : Rect) (t : Tri) (i j : ℕ) (u : Bool) → cond t.upper u (not u) ≡ false → seen r t i j u ≡ false
off_half r t i j u h = rw (h, and_false (eqb t.row i && eqb t.col j)) (and_false (has_cell r i j))

is_seen : (r : Rect) (t : Tri) → has_cell r t.row t.col ≡ true → seen r t t.row t.col t.upper ≡ true
is_seen r t h = ap₂ (λ a b. a && b) h (tri_self t)

module _ (r : Rect) (t : Tri) where
  across : (i j : ℕ) → on_right r t (walk Across i j true) ≡ seen r t i j true
  across i j = of_cell (same_tri t) (has_cell r i j) (tri i j true)

  down_back : (i j : ℕ) → on_right r t (walk Down i j false) ≡ seen r t i j true
  down_back i j = of_cell (same_tri t) (has_cell r i j) (tri i j true)

  slant : (i j : ℕ) → on_right r t (walk Slant i j true) ≡ seen r t i j false
  slant i j = of_cell (same_tri t) (has_cell r i j) (tri i j false)

  slant_back : (i j : ℕ) → on_right r t (walk Slant i j false) ≡ seen r t i j true
  slant_back i j = of_cell (same_tri t) (has_cell r i j) (tri i j true)

  across_back : (x i j : ℕ) → x ≡ i + 1 → on_right r t (walk Across x j false) ≡ seen r t i j false
  across_back zero i j e = absurd (omega (arith, e))
  across_back (suc x) i j e = let k : x ≡ i = omega (arith, e) in of_cell (same_tri t) (has_cell r x j) (tri x j false) ∙ ap (λ n. seen r t n j false) k

  down : (y i j : ℕ) → y ≡ j + 1 → on_right r t (walk Down i y true) ≡ seen r t i j false
  down zero i j e = absurd (omega (arith, e))
  down (suc y) i j e = let k : y ≡ j = omega (arith, e) in of_cell (same_tri t) (has_cell r i y) (tri i y false) ∙ ap (λ n. seen r t i n false) k

  -- where the triangle on the other side of a link can't be this one
  across_back_off : (x j : ℕ) → ((i : ℕ) → x ≡ i + 1 → seen r t i j false ≡ false) → on_right r t (walk Across x j false) ≡ false
  across_back_off zero j h = refl
  across_back_off (suc x) j h = across_back (suc x) x j (omega arith) ∙ h x (omega arith)

  down_off : (i y : ℕ) → ((j : ℕ) → y ≡ j + 1 → seen r t i j false ≡ false) → on_right r t (walk Down i y true) ≡ false
  down_off i zero h = refl
  down_off i (suc y) h = down (suc y) i y (omega arith) ∙ h y (omega arith)

-- ---- the legs of a triangle among the links of a rectangle

-- what a value of walks gives for a link, walked with the triangle on the right
abbrev pub beside_tri : Rect → Tri → (Walk → ℤ) → Link → ℤ
beside_tri r t g l = cond (on_right r t (record { link = l; forward = true })) (g (record { link = l; forward = true })) (pos 0) +ℤ cond (on_right r t (record { link = l; forward = false })) (g (record { link = l; forward = false })) (pos 0)

-- of a list of one link
none : (a b : Bool) (u v : ℤ) → a ≡ false → b ≡ false → (cond a u (pos 0) +ℤ cond b v (pos 0)) +ℤ pos 0 ≡ pos 0
none a b u v e h = rw (e, h) refl

ahead_only : (a b : Bool) (u v : ℤ) → a ≡ true → b ≡ false → (cond a u (pos 0) +ℤ cond b v (pos 0)) +ℤ pos 0 ≡ u
ahead_only a b u v e h = rw (e, h) (omega (arith, ints))

back_only : (a b : Bool) (u v : ℤ) → a ≡ false → b ≡ true → (cond a u (pos 0) +ℤ cond b v (pos 0)) +ℤ pos 0 ≡ v
back_only a b u v e h = rw (e, h) (omega (arith, ints))

in_order : (x y z : ℤ) → (x +ℤ y) +ℤ z ≡ x +ℤ (z +ℤ (y +ℤ pos 0))
in_order x y z = omega (arith, ints)

round : (x y z : ℤ) → (x +ℤ y) +ℤ z ≡ z +ℤ (y +ℤ (x +ℤ pos 0))
round x y z = omega (arith, ints)

abbrev one_link : Way → ℕ → ℕ → List Link
one_link way i j = record { way = way; row = i; col = j } ∷ []

-- the sum over the links of three ways
three_ways : (r : Rect) (G : Link → ℤ) (x y z : ℤ) →
    total G (each_place r.row (r.rows + 1) r.col r.cols (one_link Across)) ≡ x →
    total G (each_place r.row r.rows r.col (r.cols + 1) (one_link Down)) ≡ y →
    total G (each_place r.row r.rows r.col r.cols (one_link Slant)) ≡ z →
    total G (links r) ≡ (x +ℤ y) +ℤ z
three_ways r G x y z a d s =
    let across = each_place r.row (r.rows + 1) r.col r.cols (one_link Across) in
    let down = each_place r.row r.rows r.col (r.cols + 1) (one_link Down) in
    let slant = each_place r.row r.rows r.col r.cols (one_link Slant) in
    total-append G (across ++ down) slant ∙ ap₂ ◌+ℤ◌ (total-append G across down ∙ ap₂ ◌+ℤ◌ a d) s

module _ (r : Rect) (i j : ℕ) (g : Walk → ℤ) (c : IsCell r i j) where
  there : has_cell r i j ≡ true
  there = cell_has r i j c

  upper_across : total (beside_tri r (tri i j true) g) (each_place r.row (r.rows + 1) r.col r.cols (one_link Across)) ≡ g (walk Across i j true)
  upper_across =
      let t = tri i j true in
      total_places (beside_tri r t g) (one_link Across) i j r.row (r.rows + 1) r.col r.cols
      (λ x y d. none _ _ _ _ (across r t x y ∙ off_row r t x y true d) (across_back_off r t x y (λ k e. off_half r t k y false refl)))
      (λ y d. none _ _ _ _ (across r t i y ∙ off_col r t i y true d) (across_back_off r t i y (λ k e. off_half r t k y false refl)))
      c.north (let s = c.south in omega (arith, s)) c.west c.east
      ∙ ahead_only _ _ _ _ (across r t i j ∙ is_seen r t there) (across_back_off r t i j (λ k e. off_half r t k j false refl))

  upper_down : total (beside_tri r (tri i j true) g) (each_place r.row r.rows r.col (r.cols + 1) (one_link Down)) ≡ g (walk Down i j false)
  upper_down =
      let t = tri i j true in
      total_places (beside_tri r t g) (one_link Down) i j r.row r.rows r.col (r.cols + 1)
      (λ x y d. none _ _ _ _ (down_off r t x y (λ k e. off_half r t x k false refl)) (down_back r t x y ∙ off_row r t x y true d))
      (λ y d. none _ _ _ _ (down_off r t i y (λ k e. off_half r t i k false refl)) (down_back r t i y ∙ off_col r t i y true d))
      c.north c.south c.west (let e = c.east in omega (arith, e))
      ∙ back_only _ _ _ _ (down_off r t i j (λ k e. off_half r t i k false refl)) (down_back r t i j ∙ is_seen r t there)

  upper_slant : total (beside_tri r (tri i j true) g) (each_place r.row r.rows r.col r.cols (one_link Slant)) ≡ g (walk Slant i j false)
  upper_slant =
      let t = tri i j true in
      total_places (beside_tri r t g) (one_link Slant) i j r.row r.rows r.col r.cols
      (λ x y d. none _ _ _ _ (slant r t x y ∙ off_half r t x y false refl) (slant_back r t x y ∙ off_row r t x y true d))
      (λ y d. none _ _ _ _ (slant r t i y ∙ off_half r t i y false refl) (slant_back r t i y ∙ off_col r t i y true d))
      c.north c.south c.west c.east
      ∙ back_only _ _ _ _ (slant r t i j ∙ off_half r t i j false refl) (slant_back r t i j ∙ is_seen r t there)

  lower_across : total (beside_tri r (tri i j false) g) (each_place r.row (r.rows + 1) r.col r.cols (one_link Across)) ≡ g (walk Across (i + 1) j false)
  lower_across =
      let t = tri i j false in
      total_places (beside_tri r t g) (one_link Across) (i + 1) j r.row (r.rows + 1) r.col r.cols
      (λ x y d. none _ _ _ _ (across r t x y ∙ off_half r t x y true refl) (across_back_off r t x y (λ k e. off_row r t k y false (λ s. d (omega (arith, e, s))))))
      (λ y d. none _ _ _ _ (across r t (i + 1) y ∙ off_half r t (i + 1) y true refl) (across_back_off r t (i + 1) y (λ k e. off_col r t k y false d)))
      (let n = c.north in omega (arith, n)) (let s = c.south in omega (arith, s)) c.west c.east
      ∙ back_only _ _ _ _ (across r t (i + 1) j ∙ off_half r t (i + 1) j true refl) (across_back r t (i + 1) i j refl ∙ is_seen r t there)

  lower_down : total (beside_tri r (tri i j false) g) (each_place r.row r.rows r.col (r.cols + 1) (one_link Down)) ≡ g (walk Down i (j + 1) true)
  lower_down =
      let t = tri i j false in
      total_places (beside_tri r t g) (one_link Down) i (j + 1) r.row r.rows r.col (r.cols + 1)
      (λ x y d. none _ _ _ _ (down_off r t x y (λ k e. off_row r t x k false d)) (down_back r t x y ∙ off_half r t x y true refl))
      (λ y d. none _ _ _ _ (down_off r t i y (λ k e. off_col r t i k false (λ s. d (omega (arith, e, s))))) (down_back r t i y ∙ off_half r t i y true refl))
      c.north c.south (let w = c.west in omega (arith, w)) (let e = c.east in omega (arith, e))
      ∙ ahead_only _ _ _ _ (down r t (j + 1) i j refl ∙ is_seen r t there) (down_back r t i (j + 1) ∙ off_half r t i (j + 1) true refl)

  lower_slant : total (beside_tri r (tri i j false) g) (each_place r.row r.rows r.col r.cols (one_link Slant)) ≡ g (walk Slant i j true)
  lower_slant =
      let t = tri i j false in
      total_places (beside_tri r t g) (one_link Slant) i j r.row r.rows r.col r.cols
      (λ x y d. none _ _ _ _ (slant r t x y ∙ off_row r t x y false d) (slant_back r t x y ∙ off_half r t x y true refl))
      (λ y d. none _ _ _ _ (slant r t i y ∙ off_col r t i y false d) (slant_back r t i y ∙ off_half r t i y true refl))
      c.north c.south c.west c.east
      ∙ ahead_only _ _ _ _ (slant r t i j ∙ is_seen r t there) (slant_back r t i j ∙ off_half r t i j true refl)

  -- the links that have a triangle on the right are its legs
  legs_of : (u : Bool) → total (beside_tri r (tri i j u) g) (links r) ≡ total g (legs (tri i j u))
  legs_of true = three_ways r (beside_tri r (tri i j true) g) _ _ _ upper_across upper_down upper_slant ∙ in_order (g (walk Across i j true)) (g (walk Down i j false)) (g (walk Slant i j false))
  legs_of false = three_ways r (beside_tri r (tri i j false) g) _ _ _ lower_across lower_down lower_slant ∙ round (g (walk Across (i + 1) j false)) (g (walk Down i (j + 1) true)) (g (walk Slant i j true))

pub over_legs : (r : Rect) (t : Tri) (g : Walk → ℤ) → IsCell r t.row t.col → total (beside_tri r t g) (links r) ≡ total g (legs t)
over_legs r t g c = legs_of r t.row t.col g c t.upper
