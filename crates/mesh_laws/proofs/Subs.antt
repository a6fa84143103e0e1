-- The sub-segments and the steps of a mesh: which it has, and that each stands once.
use Rattle.std.proofs.Common.{◌≡◌, ⊎_elim, ℕ, ◌+◌, ◌-◌, min, max, Bool, true, false, cond, Option, Some, None, List, [], ◌∷◌, ◌++◌, map, refl, sym, ap, subst, ◌∙◌}
use Rattle.mesh_definitions.specs.Faces.{steps_of}
use Rattle.mesh_definitions.specs.Field.{Field, node_band}
use Rattle.mesh_definitions.specs.Mesh.{first, second, links, tris, surveyed}
use Rattle.mesh_definitions.specs.Pieces.{Mesh, mesh_of, ahead, back, part_bands, chord_levels, span, least_band, greatest_band}
use Rattle.mesh_definitions.specs.declared.Link.{Link}
use Rattle.mesh_definitions.specs.declared.Rect.{Rect}
use Rattle.mesh_definitions.specs.declared.Step.{Step}
use Rattle.mesh_definitions.specs.declared.Sub.TheVariants.{Part, Chord}
use Rattle.mesh_definitions.specs.declared.Sub.{Sub}
use Rattle.mesh_definitions.specs.declared.Tri.{Tri}
use Rattle.mesh_definitions.specs.declared.Way.TheVariants.{Across}
use Rattle.mesh_laws.proofs.Links.{distinct_links, link}
use Rattle.mesh_laws.proofs.Once.{distinct_append, distinct_flat_map, distinct_map, distinct_range, distinct_tris, parts, chords}
use Rattle.mesh_laws.proofs.Triangles.{tri}
use Rattle.plane_laws.proofs.Lists.{from_append, from_flat_map, from_map, in_flat_map}
use Rattle.plane_laws.proofs.Members.{In, Distinct, in_left, in_map, in_right}

-- ---- which sub-segments a mesh has

module _ (f : Field) (r : Rect) (block : ℕ → ℕ → ℕ) where
  pub in_parts : (l : Link) (b : ℕ) → In (links r) l → In (part_bands f l) b → In (mesh_of f r block).subs (Part l b)
  in_parts l b i j = in_left (parts f r) (chords f r) (Part l b) (in_flat_map (λ l. map (Part l) (part_bands f l)) (links r) l (Part l b) i (in_map (Part l) (part_bands f l) b j))

  pub in_chords : (t : Tri) (k : ℕ) → In (tris r) t → In (chord_levels f t) k → In (mesh_of f r block).subs (Chord t k)
  in_chords t k i j = in_right (parts f r) (chords f r) (Chord t k) (in_flat_map (λ t. map (Chord t) (chord_levels f t)) (tris r) t (Chord t k) i (in_map (Chord t) (chord_levels f t) k j))

  -- the link of a part
  pub link_there : (l : Link) (b : ℕ) → In (mesh_of f r block).subs (Part l b) → In (links r) l
  link_there l b i = ⊎_elim
      (λ j.
      let x = from_flat_map (λ l. map (Part l) (part_bands f l)) (links r) (Part l b) j in
      let y = from_map (Part x.0) (part_bands f x.0) (Part l b) x.2 in
      let e : x.0 ≡ l = let g = y.2 in cc (g) in
      subst (In (links r)) e x.1)
      (λ j.
      let x = from_flat_map (λ t. map (Chord t) (chord_levels f t)) (tris r) (Part l b) j in
      let y = from_map (Chord x.0) (chord_levels f x.0) (Part l b) x.2 in
      absurd (let g = y.2 in cc (g)))
      (from_append (parts f r) (chords f r) (Part l b) i)

-- ---- each once

abbrev link_key : Sub → Link
link_key (Part l b) = l
link_key (Chord t k) = link Across 0 0

abbrev tri_key : Sub → Tri
tri_key (Part l b) = tri 0 0 true
tri_key (Chord t k) = t

abbrev number_key : Sub → ℕ
number_key (Part l b) = b
number_key (Chord t k) = k

module _ (f : Field) where
  bands_once : (l : Link) → Distinct (part_bands f l)
  bands_once l = by (node_band f (first l)) (node_band f (second l)) refl refl
    where
      by : (x y : Option ℕ) → node_band f (first l) ≡ x → node_band f (second l) ≡ y → Distinct (part_bands f l)
      by None y e g = subst Distinct (let k : 0 ∷ [] ≡ part_bands f l = rw e refl in k) (λ n. n, tt)
      by (Some x) None e g = subst Distinct (let k : 0 ∷ [] ≡ part_bands f l = rw (e, g) refl in k) (λ n. n, tt)
      by (Some x) (Some y) e g = subst Distinct (let k : span (min x y) (max x y) ≡ part_bands f l = rw (e, g) refl in k) (distinct_range (min x y) (max x y + 1 - min x y))

  levels_once : (t : Tri) → Distinct (chord_levels f t)
  levels_once t = by (surveyed f t)
    where
      by : (s : Bool) → Distinct (cond s (span (least_band f t + 1) (greatest_band f t)) [])
      by true = distinct_range (least_band f t + 1) (greatest_band f t + 1 - (least_band f t + 1))
      by false = tt

  -- each sub-segment stands once
  pub distinct_subs : (r : Rect) → Distinct (parts f r ++ chords f r)
  distinct_subs r = distinct_append (parts f r) (chords f r)
      (distinct_flat_map (λ l. map (Part l) (part_bands f l)) link_key (links r)
      (λ l u i. let k = from_map (Part l) (part_bands f l) u i in sym (ap link_key k.2))
      (λ l. distinct_map (Part l) number_key (λ b. refl) (part_bands f l) (bands_once l))
      (distinct_links r))
      (distinct_flat_map (λ t. map (Chord t) (chord_levels f t)) tri_key (tris r)
      (λ t u i. let k = from_map (Chord t) (chord_levels f t) u i in sym (ap tri_key k.2))
      (λ t. distinct_map (Chord t) number_key (λ b. refl) (chord_levels f t) (levels_once t))
      (distinct_tris r))
      (λ u a b.
      let x = from_flat_map (λ l. map (Part l) (part_bands f l)) (links r) u a in
      let y = from_map (Part x.0) (part_bands f x.0) u x.2 in
      let v = from_flat_map (λ t. map (Chord t) (chord_levels f t)) (tris r) u b in
      let w = from_map (Chord v.0) (chord_levels f v.0) u v.2 in
      let g = y.2 ∙ sym w.2 in absurd (cc (g)))

-- ---- steps

abbrev pub step : Sub → Bool → Step
step s forward = record { sub = s; forward = forward }

-- a sub-segment of a mesh can be walked both ways
pub step_in : (m : Mesh) (s : Sub) (forward : Bool) → In m.subs s → In (steps_of m) (step s forward)
step_in m s true i = in_left (map ahead m.subs) (map back (map ahead m.subs)) (ahead s) (in_map ahead m.subs s i)
step_in m s false i = in_right (map ahead m.subs) (map back (map ahead m.subs)) (back (ahead s)) (in_map back (map ahead m.subs) (ahead s) (in_map ahead m.subs s i))

distinct_walks : (subs : List Sub) → Distinct subs → Distinct (map ahead subs ++ map back (map ahead subs))
distinct_walks subs d =
    let on = distinct_map ahead (λ (x : Step). x.sub) (λ s. refl) subs d in
    distinct_append (map ahead subs) (map back (map ahead subs)) on
    (distinct_map back back twice (map ahead subs) on)
    (λ x a b.
    let k = from_map ahead subs x a in
    let l = from_map back (map ahead subs) x b in
    let n = from_map ahead subs l.0 l.1 in
    let e : true ≡ x.forward = ap (λ (y : Step). y.forward) k.2 in
    let g : back (ahead n.0) ≡ x = ap back n.2 ∙ l.2 in
    let h : false ≡ x.forward = ap (λ (y : Step). y.forward) g in
    absurd (cc (e, h)))
  where
    twice_by : (s : Sub) (forward : Bool) → back (back (step s forward)) ≡ step s forward
    twice_by s true = refl
    twice_by s false = refl

    twice : (x : Step) → back (back x) ≡ x
    twice x = twice_by x.sub x.forward

-- each step of a mesh stands once
pub distinct_steps : (f : Field) (r : Rect) (block : ℕ → ℕ → ℕ) → Distinct (steps_of (mesh_of f r block))
distinct_steps f r block = distinct_walks (mesh_of f r block).subs (distinct_subs f r)
