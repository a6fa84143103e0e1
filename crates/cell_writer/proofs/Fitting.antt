-- When a chart fits, and what then holds.
use Rattle.std.proofs.Common.{◌≡◌, ℕ, zero, suc, ◌+◌, ◌*◌, ◌<◌, ◌≤◌, Bool, true, false, ◌&&◌, cond, List, [], ◌∷◌, ◌++◌, Option, Some, None, length, refl, sym, ap, ap₂, ◌∙◌, arith}
use Rattle.std.specs.Bool.{IsTrue}
use Rattle.std.specs.List.{All, list_all}
use Rattle.std.specs.Option.{is_some}
use Rattle.std.proofs.Math.Dec.{eqb-suc-zero}
use Rattle.std.proofs.lemmas.Bool.{ltb-true, and_parts}
use Rattle.std.proofs.lemmas.List.Elements.{All-nil, All-cons}
use Rattle.std.proofs.lemmas.List.Folds.{list_all-append}
use Rattle.cell_writer.specs.Layout.{numbered, is_short, data_set_parts, parameter_parts, isolated_parts, connected_parts, edge_parts, feature_parts, vector_records, feature_records, fits_of}
use Rattle.cell_writer.specs.Sizes.{plus, plus_all, short_size, size_of}
use Rattle.cell_writer.proofs.Sizing.{some_cost, edge_size, feature_size, isolated_size}
use Rattle.chart_model.specs.Tally.{IsMeasured, soundings_of}
use Rattle.chart_model.specs.declared.records.Connected.{Connected}
use Rattle.chart_model.specs.declared.records.Edge.{Edge}
use Rattle.chart_model.specs.declared.records.Feature.{Feature}
use Rattle.chart_model.specs.declared.records.Isolated.{Isolated}
use Rattle.chart_model.specs.declared.records.Parts.{Parts}
use Rattle.chart_model.specs.declared.records.Shape.{Shape}
use Rattle.chart_model.specs.declared.records.Shape.TheVariants.{One, Soundings}
use Rattle.iso8211_codec.specs.Layout.{size, lens_of}
use Rattle.iso8211_codec.specs.Reading.{Part}

-- ---- the length of the cell

connected_size : (xs : List Connected) → plus_all (λ (k : Connected). short_size (connected_parts 0 k)) xs ≡ Some (88 * length xs)
connected_size [] = refl
connected_size (x ∷ xs) = rw (connected_size xs) (ap Some (omega arith))

sum_of_all : (a b d e f g : Option ℕ) (i j k l m n : ℕ) → Some i ≡ a → Some j ≡ b → Some k ≡ d → Some l ≡ e → Some m ≡ f → Some n ≡ g
    → Some (i + j + k + l + m + n + 1352) ≡ plus a (plus b (plus d (plus e (plus f (plus g (Some 1352))))))
sum_of_all a b d e f g i j k l m n h1 h2 h3 h4 h5 h6 = rw (← h1, ← h2, ← h3, ← h4, ← h5, ← h6) (ap Some (omega arith))

pub whole_size : (c : Parts) (i j k m n : ℕ) → Some i ≡ short_size (data_set_parts 0 c) → Some j ≡ short_size (parameter_parts 0 c.header)
    → Some k ≡ plus_all (λ node. short_size (isolated_parts 0 node)) c.isolated
    → Some m ≡ plus_all (λ edge. short_size (edge_parts 0 edge)) c.edges
    → Some n ≡ plus_all (λ feature. short_size (feature_parts 0 feature)) c.features
    → Some (i + j + k + 88 * length c.connected + m + n + 1352) ≡ size_of c
whole_size c i j k m n h1 h2 h3 h5 h6 = sum_of_all _ _ _ _ _ _ i j k (88 * length c.connected) m n h1 h2 h3 (sym (connected_size c.connected)) h5 h6

-- ---- whether it fits

some_plus : (a b : Option ℕ) → is_some (plus a b) ≡ (is_some a && is_some b)
some_plus None b = refl
some_plus (Some n) None = refl
some_plus (Some n) (Some m) = refl

some_short : (ps : List Part) → is_some (short_size ps) ≡ is_short ps
some_short ps = by_test (is_short ps)
  where
    by_test : (b : Bool) → is_some (cond b (Some (size (lens_of ps))) None) ≡ b
    by_test true = refl
    by_test false = refl

-- records whose lengths don't depend on their places
all_short : {X : Type 0} (parts : ℕ → X → List Part) → ((n : ℕ) (x : X) → is_short (parts 0 x) ≡ is_short (parts n x)) → (n : ℕ) (xs : List X)
    → is_some (plus_all (λ x. short_size (parts 0 x)) xs) ≡ list_all is_short (numbered parts n xs)
all_short parts same n [] = refl
all_short parts same n (x ∷ xs) =
    some_plus (short_size (parts 0 x)) _ ∙ ap₂ (λ a b. a && b) (some_short (parts 0 x) ∙ same n x) (all_short parts same (n + 1) xs)

regrouped : (a b d e f g : Bool) → (a && (b && (d && (e && (f && (g && true)))))) ≡ (a && (b && ((d && (e && f)) && g)))
regrouped false b d e f g = refl
regrouped true false d e f g = refl
regrouped true true false e f g = refl
regrouped true true true false f g = refl
regrouped true true true true false g = refl
regrouped true true true true true false = refl
regrouped true true true true true true = refl

pub fits_by_size : (c : Parts) → is_some (size_of c) ≡ fits_of c
unfolding fits_of
fits_by_size c =
    some_plus _ _ ∙ ap₂ (λ a b. a && b) (some_short (data_set_parts 0 c))
    (some_plus _ _ ∙ ap₂ (λ a b. a && b) (some_short (parameter_parts 0 c.header))
    (some_plus _ _ ∙ ap₂ (λ a b. a && b) (all_short isolated_parts (λ n x. refl) 3 c.isolated)
    (some_plus _ _ ∙ ap₂ (λ a b. a && b) (all_short connected_parts (λ n x. refl) (3 + length c.isolated) c.connected)
    (some_plus _ _ ∙ ap₂ (λ a b. a && b) (all_short edge_parts (λ n x. refl) (3 + (length c.isolated + length c.connected)) c.edges)
    (some_plus _ _ ∙ ap (λ a. a && true) (all_short feature_parts (λ n x. refl) (3 + (length c.isolated + (length c.connected + length c.edges))) c.features))))))
    ∙ regrouped (is_short (data_set_parts 1 c)) (is_short (parameter_parts 2 c.header)) (list_all is_short isolated) (list_all is_short connected) (list_all is_short edges) (list_all is_short (feature_records c))
    ∙ ap (λ b. is_short (data_set_parts 1 c) && (is_short (parameter_parts 2 c.header) && b)) (sym all_lists)
  where
    isolated : List (List Part)
    isolated = numbered isolated_parts 3 c.isolated

    connected : List (List Part)
    connected = numbered connected_parts (3 + length c.isolated) c.connected

    edges : List (List Part)
    edges = numbered edge_parts (3 + (length c.isolated + length c.connected)) c.edges

    all_lists : list_all is_short (vector_records c ++ feature_records c)
        ≡ ((list_all is_short isolated && (list_all is_short connected && list_all is_short edges)) && list_all is_short (feature_records c))
    all_lists = list_all-append is_short (vector_records c) (feature_records c) ∙ ap (λ a. a && list_all is_short (feature_records c))
        (list_all-append is_short isolated (connected ++ edges) ∙ ap (λ a. list_all is_short isolated && a) (list_all-append is_short connected edges))

-- ---- what holds of a chart that fits

-- each record is short
pub record AreShort (c : Parts) : Type 0 where
  pub data_set : IsTrue (is_short (data_set_parts 1 c))
  pub parameters : IsTrue (is_short (parameter_parts 2 c.header))
  pub vectors : IsTrue (list_all is_short (vector_records c))
  pub features : IsTrue (list_all is_short (feature_records c))

pub are_short : (c : Parts) → IsTrue (fits_of c) → AreShort c
unfolding fits_of
are_short c h =
    let first = and_parts (is_short (data_set_parts 1 c)) _ h in
    let second = and_parts (is_short (parameter_parts 2 c.header)) _ first.1 in
    let lists = and_parts (list_all is_short (vector_records c)) (list_all is_short (feature_records c)) (sym (list_all-append is_short (vector_records c) (feature_records c)) ∙ second.1) in
    record { data_set = first.0; parameters = second.0; vectors = lists.0; features = lists.1 }

-- what holds of each short record holds of all
all_from : {X : Type 0} (parts : ℕ → X → List Part) (P : X → Type 0) → ((n : ℕ) (x : X) → size (lens_of (parts n x)) < 100000 → P x) → (n : ℕ) (xs : List X)
    → IsTrue (list_all is_short (numbered parts n xs)) → All P xs
all_from parts P each n [] h = All-nil P
all_from parts P each n (x ∷ xs) h =
    let b = and_parts (is_short (parts n x)) (list_all is_short (numbered parts (n + 1) xs)) h in
    All-cons P x xs (each n x (ltb-true _ _ b.0)) (all_from parts P each (n + 1) xs b.1)

at_most : (count n : ℕ) → count * n ≤ some_cost count n
at_most zero n = omega arith
at_most (suc count) n = rw eqb-suc-zero (omega arith)

few_soundings : (n rcid rver : ℕ) (s : Shape) → size (lens_of (isolated_parts n (record { rcid = rcid; rver = rver; shape = s }))) < 100000
    → length (soundings_of (record { rcid = rcid; rver = rver; shape = s })) ≤ 12500
few_soundings n rcid rver (One p) h = omega arith
few_soundings n rcid rver (Soundings list) h = omega (arith, h, isolated_size n (record { rcid = rcid; rver = rver; shape = Soundings list }) list refl)

pub measured : (c : Parts) → IsTrue (fits_of c) → IsMeasured c
measured c h =
    let a = are_short c h in
    let isolated = and_parts (list_all is_short (numbered isolated_parts 3 c.isolated)) _ (sym (list_all-append is_short (numbered isolated_parts 3 c.isolated) _) ∙ a.vectors) in
    let edges = and_parts (list_all is_short (numbered connected_parts (3 + length c.isolated) c.connected)) _ (sym (list_all-append is_short (numbered connected_parts (3 + length c.isolated) c.connected) _) ∙ isolated.1) in
    record {
      pointers = all_from feature_parts (λ (f : Feature). length f.pointers ≤ 12500) (λ n f s. omega (arith, s, feature_size n f, at_most (length f.pointers) 8)) _ c.features a.features;
      soundings = all_from isolated_parts (λ (k : Isolated). length (soundings_of k) ≤ 12500) (λ n k s. few_soundings n k.rcid k.rver k.shape s) 3 c.isolated isolated.0;
      inner = all_from edge_parts (λ (e : Edge). length e.inner ≤ 12500) (λ n e s. omega (arith, s, edge_size n e, at_most (length e.inner) 8)) _ c.edges edges.1;
    }
