-- Numbers in a row, and lists that are made of one part for each.
use Rattle.std.proofs.Common.{◌≡◌, ℕ, zero, suc, ◌+◌, ◌*◌, ◌<◌, List, [], ◌∷◌, ◌++◌, length, add-one, add-zero, zero-add, refl, sym, ap, ◌∙◌, subst, arith}
use Rattle.std.specs.List.{range_with_len, flat_map}
use Rattle.std.proofs.lemmas.List.{append-nil}
use Rattle.std.proofs.lemmas.List.Concat.{flat_map-append}
use Rattle.std.proofs.lemmas.List.FromFn.{length-range_with_len}
use Rattle.boundary_arcs.specs.Collecting.{Adds}
use Rattle.boundary_arcs.specs.declared.net.Drawn.{Drawn}
use Rattle.boundary_arcs.specs.declared.net.Net.{Net}
use Rattle.boundary_arcs.proofs.Adding.{adds_none, adds_then}

pub range_more : (a n : ℕ) → range_with_len a (suc n) ≡ range_with_len a n ++ (a + n) ∷ []
range_more a zero = rw add-zero refl
range_more a (suc n) =
    let e : a + 1 + n ≡ a + suc n = omega arith in
    ap (λ r. a ∷ r) (range_more (a + 1) n ∙ ap (λ k. range_with_len (a + 1) n ++ k ∷ []) e)

pub parts_more : {X : Type 0} (g : ℕ → List X) (a n : ℕ) → flat_map g (range_with_len a (n + 1)) ≡ flat_map g (range_with_len a n) ++ g (a + n)
parts_more g a n = rw add-one (ap (flat_map g) (range_more a n) ∙ (flat_map-append g (range_with_len a n) ((a + n) ∷ []) ∙ ap (λ r. flat_map g (range_with_len a n) ++ r) (append-nil (g (a + n)))))

-- rows of numbers that are the same begin the same, where they aren't empty, and are as long
pub same_range : (a m s n : ℕ) → range_with_len a m ≡ range_with_len s n → 0 < n → (a ≡ s) × (m ≡ n)
same_range a m s n e l = by m n e l (sym (length-range_with_len a m) ∙ (ap length e ∙ length-range_with_len s n))
  where
    by : (m n : ℕ) → range_with_len a m ≡ range_with_len s n → 0 < n → m ≡ n → (a ≡ s) × (m ≡ n)
    by zero n e l h = absurd (omega (arith, l, h))
    by (suc m) zero e l h = absurd (omega (arith, l))
    by (suc m) (suc n) e l h = (cc, h)

-- ---- adding one part after another

pub adds_start : (net : Net) (g : ℕ → List Drawn) (s : ℕ) → Adds 0 net net (flat_map g (range_with_len s 0))
adds_start net g s = adds_none net

pub adds_part : (n k : ℕ) (a b c : Net) (g : ℕ → List Drawn) (s i : ℕ) → Adds n a b (flat_map g (range_with_len s i)) → Adds k b c (g (s + i)) → Adds (n + k) a c (flat_map g (range_with_len s (i + 1)))
adds_part n k a b c g s i h z = subst (Adds (n + k) a c) (sym (parts_more g s i)) (adds_then n k a b c (flat_map g (range_with_len s i)) (g (s + i)) h z)

-- the same, where the numbers begin at 0 and each part adds at most as much
pub adds_next : (k i : ℕ) (a b c : Net) (g : ℕ → List Drawn) → Adds (k * i) a b (flat_map g (range_with_len 0 i)) → Adds k b c (g i) → Adds (k * (i + 1)) a c (flat_map g (range_with_len 0 (i + 1)))
adds_next k i a b c g h z =
    let here : Adds k b c (g (0 + i)) = subst (λ n. Adds k b c (g n)) (sym (zero-add i)) z in
    let much : k * i + k ≡ k * (i + 1) = omega arith in
    subst (λ n. Adds n a c (flat_map g (range_with_len 0 (i + 1)))) much (adds_part (k * i) k a b c g 0 i h here)
