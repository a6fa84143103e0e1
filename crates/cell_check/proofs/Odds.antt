-- What one more line changes among the odd outlines.
use Rattle.std.proofs.Common.{◌≡◌, ◌≢◌, ℕ, zero, suc, ◌+◌, ◌<◌, true, false, not, cond, eqb, List, [], ◌∷◌, length, get_or, replicate, refl, ap, ap₂, sym, ◌∙◌, ◌≤◌, ⊎_elim, arith}
use Rattle.std.proofs.lemmas.Bool.{cases_lt}
use Rattle.std.proofs.lemmas.List.{set_past}
use Rattle.std.proofs.lemmas.Bool.Decides.{nat_tests}
use Rattle.plane_strips.specs.SweepLaws.{is_odd_list}
use Rattle.chart_model.specs.Marks.{turned_at}
use Rattle.cell_check.specs.Places.{odds}
use Rattle.cell_check.specs.Tags.{own}
use Rattle.cell_check.specs.declared.line.Line.{Line}

pub eqb_same : (m n : ℕ) → m ≡ n → eqb m n ≡ true
eqb_same m n e = grind (arith, nat_tests)

pub eqb_other : (m n : ℕ) → m ≢ n → eqb m n ≡ false
eqb_other m n e = grind (arith, nat_tests)

pub own_here : (k : ℕ) (x : Line) (ls : List Line) → x.owner ≡ k → own k (x ∷ ls) ≡ x ∷ own k ls
own_here k x ls e = ap (λ b. cond b (x ∷ own k ls) (own k ls)) (eqb_same x.owner k e)

pub own_other : (k : ℕ) (x : Line) (ls : List Line) → x.owner ≢ k → own k (x ∷ ls) ≡ own k ls
own_other k x ls e = ap (λ b. cond b (x ∷ own k ls) (own k ls)) (eqb_other x.owner k e)

pub length_odds : (first n : ℕ) (ls : List Line) → length (odds first n ls) ≡ n
length_odds first zero ls = refl
length_odds first (suc n) ls = ap suc (length_odds (first + 1) n ls)

pub none_odd : (first n : ℕ) → odds first n [] ≡ replicate n false
none_odd first zero = refl
none_odd first (suc n) = ap (λ xs. false ∷ xs) (none_odd (first + 1) n)

pub odds_same : (first n : ℕ) (x : Line) (ls : List Line) → ((k : ℕ) → k < n → x.owner ≢ first + k) → odds first n (x ∷ ls) ≡ odds first n ls
odds_same first zero x ls h = refl
odds_same first (suc n) x ls h = ap₂ (λ b xs. b ∷ xs)
    (ap is_odd_list (own_other first x ls (λ e. h 0 (omega arith) (omega arith))))
    (odds_same (first + 1) n x ls (λ k l e. h (suc k) (omega arith) (omega arith)))

pub odds_turn : (first n p : ℕ) (x : Line) (ls : List Line) → x.owner ≡ first + p → p < n → odds first n (x ∷ ls) ≡ turned_at (odds first n ls) p
odds_turn first zero p x ls e h = absurd (omega arith)
odds_turn first (suc n) zero x ls e h = ap₂ (λ b xs. b ∷ xs)
    (ap is_odd_list (own_here first x ls (omega arith)))
    (odds_same (first + 1) n x ls (λ k l f. omega arith))
odds_turn first (suc n) (suc p) x ls e h = ap₂ (λ b xs. b ∷ xs)
    (ap is_odd_list (own_other first x ls (λ f. omega arith)))
    (odds_turn (first + 1) n p x ls (omega arith) (omega arith))

pub turn_any : (first n p : ℕ) (x : Line) (ls : List Line) → x.owner ≡ first + p → turned_at (odds first n ls) p ≡ odds first n (x ∷ ls)
turn_any first n p x ls e = ⊎_elim
    (λ (b : p < n). sym (odds_turn first n p x ls e b))
    (λ (b : n ≤ p). set_past (odds first n ls) p (not (get_or (odds first n ls) p false)) (omega (arith, length_odds first n ls)) ∙ sym (odds_same first n x ls (λ k l f. omega arith)))
    (cases_lt p n)
