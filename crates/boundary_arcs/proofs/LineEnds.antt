-- How many line ends lie at a point.
use Rattle.std.proofs.Common.{◌≡◌, ℕ, zero, suc, ◌+◌, ◌<◌, ◌≤◌, List, [], ◌∷◌, ◌++◌, Bool, true, false, cond, nat_eq, length, get_or, map, count_by, refl, sym, ap, ap₂, ◌∙◌, arith}
use Rattle.std.proofs.lemmas.List.{length-append, length-map, get_or_append_left, get_or-append-add, get_or-map}
use Rattle.std.proofs.lemmas.List.Sums.{sum_by-cons}
use Rattle.list_counts.proofs.Ticks.{tick_same, times-append}
use Rattle.list_counts.specs.Times.{times}
use Rattle.chains.specs.declared.Half.{Half}
use Rattle.chains.specs.declared.Line.{Line}
use Rattle.chains.specs.Nets.{line_at, begin_of, ends_at}

-- what is at a place of a list counts
pub times_one : (p : ℕ) (xs : List ℕ) (i : ℕ) → i < length xs → get_or xs i 0 ≡ p → 1 ≤ times p xs
times_one p [] i l e = absurd (omega arith)
times_one p (x ∷ xs) zero l e = omega (arith, tick_same x p e)
times_one p (x ∷ xs) (suc i) l e = omega (arith, times_one p xs i (omega arith) e)

-- and what is at two places counts twice
pub times_two : (p : ℕ) (xs : List ℕ) (i j : ℕ) → i < length xs → j < length xs → (i ≡ j → ⊥) → get_or xs i 0 ≡ p → get_or xs j 0 ≡ p → 2 ≤ times p xs
times_two p [] i j li lj n e f = absurd (omega arith)
times_two p (x ∷ xs) zero zero li lj n e f = absurd (n refl)
times_two p (x ∷ xs) zero (suc j) li lj n e f = omega (arith, tick_same x p e, times_one p xs j (omega arith) f)
times_two p (x ∷ xs) (suc i) zero li lj n e f = omega (arith, tick_same x p f, times_one p xs i (omega arith) e)
times_two p (x ∷ xs) (suc i) (suc j) li lj n e f = omega (arith, times_two p xs i j (omega arith) (omega arith) (λ q. n (ap suc q)) e f)

-- and what is at three places counts three times
pub times_three : (p : ℕ) (xs : List ℕ) (i j k : ℕ) → i < length xs → j < length xs → k < length xs → (i ≡ j → ⊥) → (i ≡ k → ⊥) → (j ≡ k → ⊥) → get_or xs i 0 ≡ p → get_or xs j 0 ≡ p → get_or xs k 0 ≡ p → 3 ≤ times p xs
times_three p [] i j k li lj lk nij nik njk e f g = absurd (omega arith)
times_three p (x ∷ xs) zero zero k li lj lk nij nik njk e f g = absurd (nij refl)
times_three p (x ∷ xs) zero (suc j) zero li lj lk nij nik njk e f g = absurd (nik refl)
times_three p (x ∷ xs) zero (suc j) (suc k) li lj lk nij nik njk e f g = omega (arith, tick_same x p e, times_two p xs j k (omega arith) (omega arith) (λ q. njk (ap suc q)) f g)
times_three p (x ∷ xs) (suc i) zero zero li lj lk nij nik njk e f g = absurd (njk refl)
times_three p (x ∷ xs) (suc i) zero (suc k) li lj lk nij nik njk e f g = omega (arith, tick_same x p f, times_two p xs i k (omega arith) (omega arith) (λ q. nik (ap suc q)) e g)
times_three p (x ∷ xs) (suc i) (suc j) zero li lj lk nij nik njk e f g = omega (arith, tick_same x p g, times_two p xs i j (omega arith) (omega arith) (λ q. nij (ap suc q)) e f)
times_three p (x ∷ xs) (suc i) (suc j) (suc k) li lj lk nij nik njk e f g = omega (arith, times_three p xs i j k (omega arith) (omega arith) (omega arith) (λ q. nij (ap suc q)) (λ q. nik (ap suc q)) (λ q. njk (ap suc q)) e f g)

count_is_times : (f : Line → ℕ) (p : ℕ) (lines : List Line) → count_by (λ l. nat_eq (f l) p) lines ≡ times p (map f lines)
count_is_times f p [] = refl
count_is_times f p (x ∷ xs) = omega (arith, count_is_times f p xs, sum_by-cons (λ l. cond (nat_eq (f l) p) 1 0) x xs)

module _ (lines : List Line) where
  -- the points where lines begin, then those where they end
  abbrev line_ends : List ℕ
  line_ends = map (λ l. l.begin) lines ++ map (λ l. l.end) lines

  -- the place there where a half begins
  abbrev place_of : Half → ℕ
  place_of h = cond h.forward h.line (length lines + h.line)

  wide : length line_ends ≡ length lines + length lines
  wide = omega (arith, length-append (map (λ l. l.begin) lines) (map (λ (l : Line). l.end) lines), length-map lines (λ (l : Line). l.begin), length-map lines (λ (l : Line). l.end))

  ends_are : (p : ℕ) → ends_at lines p ≡ times p line_ends
  ends_are p = ap₂ ◌+◌ (count_is_times (λ l. l.begin) p lines) (count_is_times (λ l. l.end) p lines) ∙ sym (times-append p (map (λ l. l.begin) lines) (map (λ l. l.end) lines))

  place_inside : (h : Half) → h.line < length lines → place_of h < length line_ends
  place_inside h l = go h.forward
    where
      go : (b : Bool) → cond b h.line (length lines + h.line) < length line_ends
      go true = omega (arith, wide)
      go false = omega (arith, wide)

  place_reads : (h : Half) → h.line < length lines → get_or line_ends (place_of h) 0 ≡ begin_of lines h
  place_reads h l = go h.forward
    where
      go : (b : Bool) → get_or line_ends (cond b h.line (length lines + h.line)) 0 ≡ cond b (line_at lines h.line).begin (line_at lines h.line).end
      go true =
          get_or_append_left (map (λ (l : Line). l.begin) lines) (map (λ (l : Line). l.end) lines) 0 h.line (omega (arith, length-map lines (λ (l : Line). l.begin)))
          ∙ get_or-map (λ (l : Line). l.begin) lines h.line _ 0 l
      go false =
          ap (λ n. get_or line_ends (n + h.line) 0) (sym (length-map lines (λ (l : Line). l.begin)))
          ∙ get_or-append-add (map (λ (l : Line). l.begin) lines) (map (λ (l : Line). l.end) lines) h.line 0
          ∙ get_or-map (λ (l : Line). l.end) lines h.line _ 0 l

  same_half : (g h : Half) → g.line < length lines → h.line < length lines → place_of g ≡ place_of h → g ≡ h
  same_half g h lg lh e = go g.forward h.forward refl refl e
    where
      go : (a b : Bool) → g.forward ≡ a → h.forward ≡ b → cond a g.line (length lines + g.line) ≡ cond b h.line (length lines + h.line) → g ≡ h
      go true true p q r = ap₂ (λ i f. let x : Half = record { line = i; forward = f } in x) r (p ∙ sym q)
      go true false p q r = absurd (omega (arith, r))
      go false true p q r = absurd (omega (arith, r))
      go false false p q r = let s : g.line ≡ h.line = omega (arith, r) in ap₂ (λ i f. let x : Half = record { line = i; forward = f } in x) s (p ∙ sym q)

  -- where two different halves begin, two line ends lie
  pub two_ends : (x y : Half) (p : ℕ) → x.line < length lines → y.line < length lines → (x ≡ y → ⊥) → begin_of lines x ≡ p → begin_of lines y ≡ p → 2 ≤ ends_at lines p
  two_ends x y p lx ly n e f =
      let t = times_two p line_ends (place_of x) (place_of y) (place_inside x lx) (place_inside y ly) (λ q. n (same_half x y lx ly q)) (place_reads x lx ∙ e) (place_reads y ly ∙ f) in
      omega (arith, t, ends_are p)

  -- and where three do, three lie
  pub three_ends : (x y z : Half) (p : ℕ) → x.line < length lines → y.line < length lines → z.line < length lines → (x ≡ y → ⊥) → (x ≡ z → ⊥) → (y ≡ z → ⊥) → begin_of lines x ≡ p → begin_of lines y ≡ p → begin_of lines z ≡ p → 3 ≤ ends_at lines p
  three_ends x y z p lx ly lz nxy nxz nyz e f g =
      let t = times_three p line_ends (place_of x) (place_of y) (place_of z) (place_inside x lx) (place_inside y ly) (place_inside z lz) (λ q. nxy (same_half x y lx ly q)) (λ q. nxz (same_half x z lx lz q)) (λ q. nyz (same_half y z ly lz q)) (place_reads x lx ∙ e) (place_reads y ly ∙ f) (place_reads z lz ∙ g) in
      omega (arith, t, ends_are p)
