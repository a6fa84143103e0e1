-- One put after another.
use Rattle.std.proofs.Common.{◌≡◌, ℕ, ◌+◌, List, ◌++◌, take, drop, Option, Some, None, option_map, refl, sym, ap, ◌∙◌, append_assoc, append-nil}
use Rattle.std.proofs.Math.Seq.{take-add}

pub nothing_put : (o : Option (List ℕ)) (bytes : List ℕ) → o ≡ option_map (λ taken. taken ++ take 0 bytes) o
nothing_put None bytes = refl
nothing_put (Some t) bytes = ap Some (sym (append-nil t))

pub puts_on : (o : Option (List ℕ)) (bytes : List ℕ) (i n : ℕ) → option_map (λ taken. taken ++ take n (drop i bytes)) (option_map (λ taken. taken ++ take i bytes) o) ≡ option_map (λ taken. taken ++ take (i + n) bytes) o
puts_on None bytes i n = refl
puts_on (Some t) bytes i n = ap Some (append_assoc t (take i bytes) (take n (drop i bytes)) ∙ ap (λ b. t ++ b) (sym (take-add i n bytes)))

-- a put of what is left, seen from the start
pub put_step : (old before now : Option (List ℕ)) (bytes piece : List ℕ) (i n : ℕ) → now ≡ option_map (λ taken. taken ++ take n piece) before → before ≡ option_map (λ taken. taken ++ take i bytes) old
    → piece ≡ drop i bytes → now ≡ option_map (λ taken. taken ++ take (i + n) bytes) old
put_step old before now bytes piece i n e f same = e ∙ ap (λ p. option_map (λ taken. taken ++ take n p) before) same ∙ ap (option_map (λ taken. taken ++ take n (drop i bytes))) f ∙ puts_on old bytes i n
