-- The depths of words, one by one.
use Rattle.std.proofs.Common.{◌≡◌, ℕ, zero, suc, ◌+◌, ◌<◌, ◌≤◌, ℤ, pos, negsuc, neg_ℤ, unsigned_abs, int_le, nat_lt, Bool, true, false, ◌&&◌, List, [], ◌∷◌, length, get_or, take, drop, cond, Option, Some, None, Result, Ok, Err, refl, sym, ap, ap₂, subst, ◌∙◌, arith, length-drop}
use Rattle.std.specs.List.{slice_get}
use Rattle.std.proofs.lemmas.Int.{ints}
use Rattle.std.proofs.lemmas.Bool.Decides.{nat_tests}
use Rattle.std.proofs.lemmas.List.{drop_all}
use Rattle.std.proofs.Math.Seq.{take-length}
use Rattle.exact_num.specs.Value.{floor_at}
use Rattle.grid_reader.specs.declared.fault.GridFault.{GridFault}
use Rattle.grid_reader.specs.declared.fault.GridFault.TheVariants as fault
use Rattle.grid_reader.specs.declared.sense.Sense.{Sense}
use Rattle.grid_reader.specs.Words.{Word}
use Rattle.grid_reader.specs.Marks.{Mark, mark_of}
use Rattle.readings.specs.Readings.{◌>>=◌}
use Rattle.grid_reader.specs.Values.{is_nodata, downwards, limited, depth_from, depth_of, depths_of, just, node_depths}
use Rattle.grid_reader.specs.Stands.{mark_at, IsDepthOf}
use Rattle.grid_reader.proofs.Facts.{just_these}
use Rattle.readings.proofs.Steps.{bind_ok}

-- where a list is cut, its places move
pub slice_get_drop : {X : Type 0} (n : ℕ) (xs : List X) (k : ℕ) → slice_get (drop n xs) k ≡ slice_get xs (n + k)
slice_get_drop zero xs k = let same : k ≡ 0 + k = omega arith in ap (slice_get xs) same
slice_get_drop (suc n) [] k = refl
slice_get_drop (suc n) (x ∷ xs) k = let next : suc (n + k) ≡ suc n + k = omega arith in slice_get_drop n xs k ∙ ap (slice_get (x ∷ xs)) next

within : (z : ℤ) → int_le (neg_ℤ (pos 12000000)) z ≡ true → int_le z (pos 12000000) ≡ true → unsigned_abs z ≤ 12000000
within (pos n) e f = grind (arith, ints)
within (negsuc n) e f = grind (arith, ints)

above : (z : ℤ) → unsigned_abs z ≤ 12000000 → int_le (neg_ℤ (pos 12000000)) z ≡ true
above (pos n) h = grind (arith, ints)
above (negsuc n) h = grind (arith, ints)

below : (z : ℤ) → unsigned_abs z ≤ 12000000 → int_le z (pos 12000000) ≡ true
below (pos n) h = grind (arith, ints)
below (negsuc n) h = grind (arith, ints)

limited_is : (at : ℕ) (z : ℤ) (d : Option ℤ) → limited at z ≡ Ok d → (d ≡ Some z) × (unsigned_abs z ≤ 12000000)
limited_is at z d h = tested (int_le (neg_ℤ (pos 12000000)) z) (int_le z (pos 12000000)) refl refl h
  where
    tested : (a b : Bool) → int_le (neg_ℤ (pos 12000000)) z ≡ a → int_le z (pos 12000000) ≡ b → cond (a && b) (Ok (Some z)) (Err (fault.Depth at)) ≡ Ok d → (d ≡ Some z) × (unsigned_abs z ≤ 12000000)
    tested true true e f h = (cc, within z e f)
    tested true false e f h = absurd (cc)
    tested false b e f h = absurd (cc)

limited_back : (at : ℕ) (z : ℤ) → unsigned_abs z ≤ 12000000 → limited at z ≡ Ok (Some z)
limited_back at z h =
    let good : Result (Option ℤ) GridFault = Ok (Some z) in
    ap₂ (λ a b. cond (a && b) good (Err (fault.Depth at))) (above z h) (below z h)

module _ (sense : Sense) (nodata : Mark) where
  depth_is : (at : ℕ) (o : Option Mark) (d : Option ℤ) → depth_from sense nodata at o ≡ Ok d → IsDepthOf sense nodata o d
  depth_is at None d h = absurd (cc)
  depth_is at (Some None) d h = cc
  depth_is at (Some (Some n)) d h = tested (is_nodata nodata n) refl h
    where
      tested : (a : Bool) → is_nodata nodata n ≡ a → cond a (Ok None) (limited at (floor_at (downwards sense n) 3)) ≡ Ok d → IsDepthOf sense nodata (Some (Some n)) d
      tested true e h = let none : Option ℤ = None in let same : none ≡ d = cc in subst (IsDepthOf sense nodata (Some (Some n))) same e
      tested false e h =
          let l = limited_is at (floor_at (downwards sense n) 3) d h in
          subst (IsDepthOf sense nodata (Some (Some n))) (sym l.0) (e, refl, l.1)

  depth_back : (at : ℕ) (o : Option Mark) (d : Option ℤ) → IsDepthOf sense nodata o d → depth_from sense nodata at o ≡ Ok d
  depth_back at None d h = absurd h
  depth_back at (Some None) d h = cc
  depth_back at (Some (Some n)) None h = ap (λ a. cond a (Ok None) (limited at (floor_at (downwards sense n) 3))) h
  depth_back at (Some (Some n)) (Some z) h =
      ap (λ a. cond a (Ok None) (limited at (floor_at (downwards sense n) 3))) h.0
      ∙ ap (limited at) (sym h.1) ∙ limited_back at z h.2

  -- each word gives its node's depth
  pub record AreDepthsOf (ws : List Word) (ds : List (Option ℤ)) : Type 0 where
    pub count : length ds ≡ length ws
    pub each : (k : ℕ) → k < length ws → IsDepthOf sense nodata (mark_at ws k) (get_or ds k None)

  pub depths_are : (ws : List Word) (ds : List (Option ℤ)) → depths_of sense nodata ws ≡ Ok ds → AreDepthsOf ws ds
  depths_are [] ds h = let none : List (Option ℤ) = [] in let same : none ≡ ds = cc in subst (AreDepthsOf []) same (record { count = refl; each = λ k l. absurd (omega arith) })
  depths_are (w ∷ ws) ds h =
      let a = bind_ok (depth_of sense nodata w) (λ d. depths_of sense nodata ws >>= (λ rest. Ok (d ∷ rest))) ds h in
      let b = bind_ok (depths_of sense nodata ws) (λ rest. Ok (a.0 ∷ rest)) ds a.2 in
      let rest = depths_are ws b.0 b.1 in
      let all : List (Option ℤ) = a.0 ∷ b.0 in
      let same : all ≡ ds = cc (b.2) in
      subst (AreDepthsOf (w ∷ ws)) same (more a.0 b.0 rest (depth_is w.at (mark_of w.bytes) a.0 a.1))
    where
      each : (d : Option ℤ) (rest : List (Option ℤ)) → AreDepthsOf ws rest → IsDepthOf sense nodata (mark_of w.bytes) d → (k : ℕ) → k < suc (length ws) → IsDepthOf sense nodata (mark_at (w ∷ ws) k) (get_or (d ∷ rest) k None)
      each d rest r first zero l = first
      each d rest r first (suc k) l = r.each k (omega arith)

      more : (d : Option ℤ) (rest : List (Option ℤ)) → AreDepthsOf ws rest → IsDepthOf sense nodata (mark_of w.bytes) d → AreDepthsOf (w ∷ ws) (d ∷ rest)
      more d rest r first = record { count = ap suc r.count; each = each d rest r first }

  pub depths_back : (ws : List Word) (ds : List (Option ℤ)) → AreDepthsOf ws ds → depths_of sense nodata ws ≡ Ok ds
  depths_back [] [] h = refl
  depths_back [] (d ∷ ds) h = let n = h.count in absurd (omega arith)
  depths_back (w ∷ ws) [] h = let n = h.count in absurd (omega arith)
  depths_back (w ∷ ws) (d ∷ ds) h =
      let n = h.count in
      let first = depth_back w.at (mark_of w.bytes) d (h.each 0 (omega arith)) in
      let rest = depths_back ws ds (record { count = omega arith; each = λ k l. h.each (suc k) (omega arith) }) in
      ap₂ (λ x y. x >>= (λ d'. y >>= (λ ds'. Ok (d' ∷ ds')))) first rest

  -- as many words as nodes
  pub nodes_are : (nodes : ℕ) (ws : List Word) (ds : List (Option ℤ)) → node_depths sense nodata nodes ws ≡ Ok ds → (length ws ≡ nodes) × AreDepthsOf ws ds
  nodes_are nodes ws ds h =
      let a = bind_ok (depths_of sense nodata (take nodes ws)) (just (length ws) nodes (drop nodes ws)) ds h in
      let j = just_these (length ws) nodes (drop nodes ws) a.0 ds a.2 in
      let size : length ws ≡ nodes = omega (arith, length-drop nodes ws, ap length j.0, j.1) in
      let all : take nodes ws ≡ ws = ap (λ n. take n ws) (sym size) ∙ take-length ws in
      let read : depths_of sense nodata ws ≡ Ok ds = ap (depths_of sense nodata) (sym all) ∙ a.1 ∙ ap Ok j.2 in
      (size, depths_are ws ds read)

  pub nodes_back : (nodes : ℕ) (ws : List Word) (ds : List (Option ℤ)) → length ws ≡ nodes → AreDepthsOf ws ds → node_depths sense nodata nodes ws ≡ Ok ds
  nodes_back nodes ws ds size h =
      let all : take nodes ws ≡ ws = ap (λ n. take n ws) (sym size) ∙ take-length ws in
      let none : drop nodes ws ≡ [] = drop_all nodes ws (omega arith) in
      let enough : nat_lt (length ws) nodes ≡ false = grind (arith, nat_tests) in
      let good : Result (List (Option ℤ)) GridFault = Ok ds in
      ap₂ (λ us vs. depths_of sense nodata us >>= just (length ws) nodes vs) all none
      ∙ ap (λ r. r >>= just (length ws) nodes []) (depths_back ws ds h)
      ∙ ap (λ a. cond a (Err (fault.TooFew (length ws))) good) enough
