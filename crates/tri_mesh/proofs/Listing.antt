-- The places of what the mesh has.
use Rattle.std.proofs.Common.{◌≡◌, ◌⊎◌, ⊎_elim, inl, inr, ℕ, zero, suc, ◌+◌, ◌-◌, ◌<◌, ◌≤◌, Bool, true, false, List, [], ◌∷◌, ◌++◌, length, get_or, subst, arith}
use Rattle.std.specs.List.{Contains, range_with_len, flat_map}
use Rattle.std.proofs.lemmas.List.Concat.{flat_map-cons}
use Rattle.std.proofs.lemmas.List.Elements.{Contains-append_cases}
use Rattle.std.proofs.lemmas.List.FromFn.{get_or-range_with_len, length-range_with_len}
use Rattle.mesh_definitions.specs.Field.{Field}
use Rattle.mesh_definitions.specs.Mesh.{all_cells, each_place, links, tris}
use Rattle.mesh_definitions.specs.declared.Link.{Link}
use Rattle.mesh_definitions.specs.declared.Tri.{Tri}
use Rattle.mesh_definitions.specs.declared.Way.TheVariants.{Across, Down, Slant}
use Rattle.tri_mesh.proofs.Drawing.{link, tri, acrosses, downs, slants, only, two}

-- where an element of a flat map comes from
from_flat : {X Y : Type 0} (g : X → List Y) (xs : List X) (d : X) (y : Y) → Contains (flat_map g xs) y → (k : ℕ) × (k < length xs) × Contains (g (get_or xs k d)) y
from_flat g [] d y h = absurd (omega (arith, h.1))
from_flat g (z ∷ zs) d y h = ⊎_elim (λ l. (0, omega arith, l)) (λ r. let s = from_flat g zs d y r in (suc s.0, omega (arith, s.1), s.2)) (Contains-append_cases (g z) (flat_map g zs) y (subst (λ l. Contains l y) (flat_map-cons g z zs) h))

from_range : {Y : Type 0} (g : ℕ → List Y) (n : ℕ) (y : Y) → Contains (flat_map g (range_with_len 0 n)) y → (i : ℕ) × (i < n) × Contains (g i) y
from_range g n y h =
    let s = from_flat g (range_with_len 0 n) 0 y h in
    let lt : s.0 < n = omega (arith, length-range_with_len 0 n, s.1) in
    let e : get_or (range_with_len 0 n) s.0 0 ≡ s.0 = omega (arith, get_or-range_with_len 0 n s.0 0 lt) in
    (s.0, lt, subst (λ i. Contains (g i) y) e s.2)

from_place : {Y : Type 0} (rows cols : ℕ) (make : ℕ → ℕ → List Y) (y : Y) → Contains (each_place 0 rows 0 cols make) y → (i : ℕ) × (j : ℕ) × (i < rows) × (j < cols) × Contains (make i j) y
from_place rows cols make y h =
    let s = from_range (λ i. flat_map (make i) (range_with_len 0 cols)) rows y h in
    let t = from_range (make s.0) cols y s.2 in
    (s.0, t.0, s.1, t.1, t.2)

one : {Y : Type 0} (x y : Y) → Contains (x ∷ []) y → x ≡ y
one x y h = by h.0 h.1 h.2
  where
    by : (k : ℕ) → k < 1 → get_or (x ∷ []) k y ≡ y → x ≡ y
    by zero lt e = e
    by (suc k) lt e = absurd (omega (arith, lt))

one_of : {Y : Type 0} (x z y : Y) → Contains (x ∷ z ∷ []) y → (x ≡ y) ⊎ (z ≡ y)
one_of x z y h = by h.0 h.1 h.2
  where
    by : (k : ℕ) → k < 2 → get_or (x ∷ z ∷ []) k y ≡ y → (x ≡ y) ⊎ (z ≡ y)
    by zero lt e = inl e
    by (suc zero) lt e = inr e
    by (suc (suc k)) lt e = absurd (omega (arith, lt))

module _ (f : Field) (rows : 1 ≤ f.rows) (cols : 1 ≤ f.cols) where
  -- what holds of each triangle of the mesh by its name
  pub of_tris : (P : Tri → Type 0) → ((i j : ℕ) (upper : Bool) → i + 1 < f.rows → j + 1 < f.cols → P (tri i j upper)) → (t : Tri) → Contains (tris (all_cells f)) t → P t
  of_tris P each t h =
      let s = from_place (f.rows - 1) (f.cols - 1) (two f) t h in
      ⊎_elim (λ e. subst P e (each s.0 s.1 true (omega (arith, s.2)) (omega (arith, s.3)))) (λ e. subst P e (each s.0 s.1 false (omega (arith, s.2)) (omega (arith, s.3)))) (one_of (tri s.0 s.1 true) (tri s.0 s.1 false) t s.4)

  -- what holds of each link
  pub of_links : (P : Link → Type 0)
      → ((i j : ℕ) → i < f.rows → j + 1 < f.cols → P (link Across i j))
      → ((i j : ℕ) → i + 1 < f.rows → j < f.cols → P (link Down i j))
      → ((i j : ℕ) → i + 1 < f.rows → j + 1 < f.cols → P (link Slant i j))
      → (l : Link) → Contains (links (all_cells f)) l → P l
  of_links P across down slant l h = ⊎_elim
      (λ g. ⊎_elim
      (λ a. let s = from_place (f.rows - 1 + 1) (f.cols - 1) (only f Across) l a in subst P (one (link Across s.0 s.1) l s.4) (across s.0 s.1 (omega (arith, s.2, rows)) (omega (arith, s.3))))
      (λ b. let s = from_place (f.rows - 1) (f.cols - 1 + 1) (only f Down) l b in subst P (one (link Down s.0 s.1) l s.4) (down s.0 s.1 (omega (arith, s.2)) (omega (arith, s.3, cols))))
      (Contains-append_cases (acrosses f) (downs f) l g))
      (λ c. let s = from_place (f.rows - 1) (f.cols - 1) (only f Slant) l c in subst P (one (link Slant s.0 s.1) l s.4) (slant s.0 s.1 (omega (arith, s.2)) (omega (arith, s.3))))
      (Contains-append_cases (acrosses f ++ downs f) (slants f) l h)
