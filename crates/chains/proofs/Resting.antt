use Rattle.std.proofs.Common.{◌≡◌, ℕ, ◌+◌, ◌<◌, List, [], ◌∷◌, ◌++◌, Bool, true, false, length, get_or, refl, sym, ap, ◌∙◌, subst, inr, ⊎_elim, arith}
use Rattle.std.proofs.lemmas.Bool.{cases_eq, false≢true}
use Rattle.std.proofs.lemmas.List.{get_or_default}
use Rattle.std.proofs.lemmas.List.Elements.{All-push}
use Rattle.list_counts.proofs.Ticks.{times-append}
use Rattle.list_counts.specs.Times.{times}
use Rattle.chains.specs.declared.Line.{Line}
use Rattle.chains.specs.declared.Half.{Half}
use Rattle.chains.specs.Nets.{begin_of, end_of, ends_at, lines_of}
use Rattle.chains.specs.Tracing.{back, IsUsed, IsSettled, IsTrace, Takes, MayBegin, Rests, HasOpen}
use Rattle.chains.proofs.Halves.{half_of, begin_back}
use Rattle.chains.proofs.Counting.{numbers}

-- what the code reads of a mark
pub mark_as_coded : (used : List Bool) (a : ℕ) (b v : Bool) → b ≡ get_or used a b → a < length used → b ≡ v → get_or used a false ≡ v
mark_as_coded used a b v e l n = sym (get_or_default used a b false l) ∙ sym e ∙ n

-- how often a number stands in chains with one more
times-lines-push : (a : ℕ) (chains : List (List Half)) (chain : List Half) → times a (lines_of (chains ++ chain ∷ [])) ≡ times a (lines_of chains) + times a (numbers chain)
times-lines-push a [] chain = omega (arith, times-append a (numbers chain) [])
times-lines-push a (c ∷ cs) chain = omega (arith, times-lines-push a cs chain, times-append a (numbers c) (lines_of (cs ++ chain ∷ [])), times-append a (numbers c) (lines_of cs))

-- a walked path is one chain more
pub chain_taken : (lines : List Line) (used : List Bool) (chains : List (List Half)) (before : List Half) → Rests lines used before chains → (path : List Half) (used' : List Bool) → Takes lines used path used' → IsTrace lines path → IsSettled lines used' → Rests lines used' [] (chains ++ path ∷ [])
chain_taken lines used chains before r path used' t trace settled = record {
  wide = t.wide;
  once = λ a. omega (arith, times-lines-push a chains path, r.once a, t.once a);
  traced = All-push (IsTrace lines) chains path r.traced trace;
  settled = settled;
  empty = refl;
}

-- both halves of one more line are taken if they begin at junctions
pub open_more : (lines : List Line) (i : ℕ) (used used1 used2 : List Bool) → HasOpen lines i used → ((a : ℕ) → IsUsed used a → IsUsed used1 a) → ((a : ℕ) → IsUsed used1 a → IsUsed used2 a) → ((ends_at lines (begin_of lines (half_of i true)) ≡ 2 → ⊥) → IsUsed used1 i) → ((ends_at lines (begin_of lines (half_of i false)) ≡ 2 → ⊥) → IsUsed used2 i) → HasOpen lines (i + 1) used2
open_more lines i used used1 used2 old grows1 grows2 forth reversed h l d = ⊎_elim
    (λ e. let k : h ≡ half_of i h.forward = ap (λ z. half_of z h.forward) e in subst (IsUsed used2) (sym e) (go h.forward (λ z. d (ap (λ g. ends_at lines (begin_of lines g)) k ∙ z))))
    (λ n. grows2 h.line (grows1 h.line (old h (omega arith) d)))
    (cases_eq h.line i)
  where
    go : (f : Bool) → (ends_at lines (begin_of lines (half_of i f)) ≡ 2 → ⊥) → IsUsed used2 i
    go true n = grows2 i (forth n)
    go false n = reversed n

-- once these are taken, what is left may begin anywhere
pub closed_may_begin : (lines : List Line) (used : List Bool) → HasOpen lines (length lines) used → (start : Half) → MayBegin lines used start
closed_may_begin lines used o start = inr (λ h l u. ⊎_elim
    (λ e. e)
    (λ d. absurd (false≢true (sym u ∙ o (back h) l (λ z. d (sym (ap (ends_at lines) (begin_back lines h)) ∙ z)))))
    (cases_eq (ends_at lines (end_of lines h)) 2))
