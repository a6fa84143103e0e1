-- The contours of made parts.
use Rattle.std.proofs.Common.{◌≡◌, ◌≢◌, ◌⊎◌, ℕ, zero, suc, ◌+◌, ◌<◌, ◌≤◌, ℤ, Bool, true, false, cond, eqb, Option, Some, None, List, [], ◌∷◌, ◌++◌, map, flat_map, length, get_or, AllPairs, refl, sym, ap, ap₂, ◌∙◌, inl, inr, ⊎_elim, arith, eq-eqb, ne_eqb}
use Rattle.std.specs.List.{range_with_len}
use Rattle.std.proofs.lemmas.Bool.{eqb-true}
use Rattle.std.proofs.lemmas.List.{get_or-map, length-map}
use Rattle.mesh_definitions.specs.declared.Class.TheVariants.{Unsurveyed, Band}
use Rattle.mesh_definitions.specs.declared.Class.{Class}
use Rattle.chart_model.specs.declared.records.Feature.{Feature}
use Rattle.chart_model.specs.declared.records.Pointer.{Pointer}
use Rattle.boundary_arcs.specs.declared.arc.Side.TheVariants.{Outside, Face}
use Rattle.boundary_arcs.specs.declared.arc.Side.{Side}
use Rattle.built_parts.specs.Contours.{contour_of, level_between, level_on}
use Rattle.built_parts.specs.Contents.{FeatureContent, content_of}
use Rattle.face_fill.specs.Numbered.{FacesView, block_of, class_of}

-- ---- the level between two classes

-- neighbouring bands, b on one side and the next on the other
abbrev pub AreNext : ℕ → Class → Class → Type 0
AreNext b A B = ((A ≡ Band b) × (B ≡ Band (b + 1))) ⊎ ((A ≡ Band (b + 1)) × (B ≡ Band b))

pub next_level : (b : ℕ) (A B : Class) → AreNext b A B → level_between A B ≡ Some (b + 1)
next_level b A B h = ⊎_elim
    (λ e. ap₂ level_between e.0 e.1 ∙ ap (λ t. cond t (Some (b + 1)) (cond (eqb (b + 1 + 1) b) (Some b) None)) (eq-eqb (b + 1) (b + 1) refl))
    (λ e. let apart : b + 1 + 1 ≢ b = λ x. omega (arith, x) in
    ap₂ level_between e.0 e.1
    ∙ ap (λ t. cond t (Some b) (cond (eqb (b + 1) (b + 1)) (Some (b + 1)) None)) (ne_eqb (b + 1 + 1) b apart)
    ∙ ap (λ t. cond t (Some (b + 1)) None) (eq-eqb (b + 1) (b + 1) refl))
    h

pub level_next : (A B : Class) (level : ℕ) → level_between A B ≡ Some level → (b : ℕ) × (level ≡ b + 1) × AreNext b A B
level_next Unsurveyed B level e = absurd (cc)
level_next (Band x) Unsurveyed level e = absurd (cc)
level_next (Band x) (Band y) level e = go (eqb (x + 1) y) (eqb (y + 1) x) refl refl e
  where
    go : (s t : Bool) → eqb (x + 1) y ≡ s → eqb (y + 1) x ≡ t → cond s (Some y) (cond t (Some x) None) ≡ Some level → (b : ℕ) × (level ≡ b + 1) × AreNext b (Band x) (Band y)
    go true t p q e = let l : y ≡ level = cc in let n = eqb-true (x + 1) y p in (x, sym l ∙ sym n, inl (refl, ap Band (sym n)))
    go false true p q e = let l : x ≡ level = cc in let n = eqb-true (y + 1) x q in (y, sym l ∙ sym n, inr (ap Band (sym n), refl))
    go false false p q e = absurd (cc)

-- ---- the level between two sides

pub record HasLevel (v : FacesView) (left right : Side) (b : ℕ) : Type 0 where
  pub i : ℕ
  pub j : ℕ
  pub on_left : left ≡ Face i
  pub on_right : right ≡ Face j
  pub one_block : block_of v i ≡ block_of v j
  pub next : AreNext b (class_of v i) (class_of v j)

pub level_there : (v : FacesView) (left right : Side) (b : ℕ) → HasLevel v left right b → level_on v left right ≡ Some (b + 1)
level_there v left right b h =
    ap₂ (level_on v) h.on_left h.on_right
    ∙ ap (λ t. cond t (level_between (class_of v h.i) (class_of v h.j)) None) (eq-eqb (block_of v h.i) (block_of v h.j) h.one_block)
    ∙ next_level b (class_of v h.i) (class_of v h.j) h.next

pub there_level : (v : FacesView) (left right : Side) (level : ℕ) → level_on v left right ≡ Some level → (b : ℕ) × (level ≡ b + 1) × HasLevel v left right b
there_level v Outside right level e = absurd (cc)
there_level v (Face i) Outside level e = absurd (cc)
there_level v (Face i) (Face j) level e = go (eqb (block_of v i) (block_of v j)) refl e
  where
    go : (t : Bool) → eqb (block_of v i) (block_of v j) ≡ t → cond t (level_between (class_of v i) (class_of v j)) None ≡ Some level → (b : ℕ) × (level ≡ b + 1) × HasLevel v (Face i) (Face j) b
    go true p e = let n = level_next (class_of v i) (class_of v j) level e in (n.0, n.1, record { i = i; j = j; on_left = refl; on_right = refl; one_block = eqb-true (block_of v i) (block_of v j) p; next = n.2 })
    go false p e = absurd (cc)

-- ---- no two contours run along one edge

abbrev no_pointer : Pointer
no_pointer = record { rcnm = 0; rcid = 0; ornt = 0; usag = 0; mask = 0 }

-- the number of the first record that pointers name
abbrev named : List Pointer → ℕ
named ps = (get_or ps 0 no_pointer).rcid

-- drafts that name edges by rising numbers, all above n
Rises : ℕ → List FeatureContent → Type 0
Rises n [] = Unit {0}
Rises n (d ∷ ds) = (n < named d.pointers) × Rises (named d.pointers) ds

lower : (n m : ℕ) (ds : List FeatureContent) → n ≤ m → Rises m ds → Rises n ds
unfolding Rises
lower n m [] l h = tt
lower n m (d ∷ ds) l h = (let k = h.0 in omega (arith, l, k), h.1)

contours_rise : (levels : List ℤ) (on : ℕ → Option ℕ) (a n : ℕ) → Rises a (flat_map (λ k. contour_of levels k (on k)) (range_with_len a n))
unfolding Rises
contours_rise levels on a zero = tt
contours_rise levels on a (suc n) = one_more (on a) (flat_map (λ k. contour_of levels k (on k)) (range_with_len (a + 1) n)) (contours_rise levels on (a + 1) n)
  where
    one_more : (o : Option ℕ) (ds : List FeatureContent) → Rises (a + 1) ds → Rises a (contour_of levels a o ++ ds)
    one_more None ds h = lower a (a + 1) ds (omega arith) h
    one_more (Some level) ds h = (omega arith, h)

rises_from : (n : ℕ) (ds : List FeatureContent) (j : ℕ) (d : FeatureContent) → Rises n ds → j < length ds → n < named (get_or ds j d).pointers
unfolding Rises
rises_from n [] j d h l = absurd (omega arith)
rises_from n (x ∷ xs) zero d h l = h.0
rises_from n (x ∷ xs) (suc j) d h l =
    let a = h.0 in
    let b = rises_from (named x.pointers) xs j d h.1 (omega arith) in
    omega (arith, a, b)

rises_between : (n : ℕ) (ds : List FeatureContent) (i j : ℕ) (d : FeatureContent) → Rises n ds → i < j → j < length ds → named (get_or ds i d).pointers < named (get_or ds j d).pointers
unfolding Rises
rises_between n [] i j d h k l = absurd (omega arith)
rises_between n (x ∷ xs) i zero d h k l = absurd (omega arith)
rises_between n (x ∷ xs) zero (suc j) d h k l = rises_from (named x.pointers) xs j d h.1 (omega arith)
rises_between n (x ∷ xs) (suc i) (suc j) d h k l = rises_between (named x.pointers) xs i j d h.1 (omega arith) (omega arith)

pub pointers_apart : (levels : List ℤ) (on : ℕ → Option ℕ) (n : ℕ) (fs : List Feature) → map content_of fs ≡ flat_map (λ k. contour_of levels k (on k)) (range_with_len 0 n) → AllPairs (λ (f h : Feature). f.pointers ≢ h.pointers) fs
pointers_apart levels on n fs e i j d k l same =
    let ds = flat_map (λ k. contour_of levels k (on k)) (range_with_len 0 n) in
    let long : length fs ≡ length ds = sym (length-map fs content_of) ∙ ap length e in
    let at : (q : ℕ) → q < length fs → get_or ds q (content_of d) ≡ content_of (get_or fs q d) = λ q m. ap (λ xs. get_or xs q (content_of d)) (sym e) ∙ get_or-map content_of fs q d (content_of d) m in
    let r = rises_between 0 ds i j (content_of d) (contours_rise levels on 0 n) k (omega (arith, long, l)) in
    let one = ap (λ (x : FeatureContent). named x.pointers) (at i (omega (arith, k, l))) in
    let two = ap (λ (x : FeatureContent). named x.pointers) (at j l) in
    let both = ap named same in
    omega (arith, r, one, two, both)
