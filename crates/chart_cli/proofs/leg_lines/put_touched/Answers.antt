use Rattle.std.proofs.Common.{◌≡◌, ℕ, List, ◌++◌, Result, Ok, Err, OnOk, ◌∙◌, ap, append_assoc}
use Rattle.chart_cli.proofs.leg_lines.put_touched.Goals as goal

on_ok : {T E P Q : Type 0} (r : Result T E) → (P → Q) → OnOk r P → OnOk r Q
on_ok (Ok x) f h = f h
on_ok (Err e) f h = h

-- three lists, appended one after the other
grown : (old a n l x y z : List ℕ) → x ≡ old ++ a → y ≡ x ++ n → z ≡ y ++ l → z ≡ old ++ (a ++ (n ++ l))
grown old a n l x y z e f g = g ∙ ap (λ t. t ++ l) (f ∙ ap (λ t. t ++ n) e) ∙ append_assoc (old ++ a) n l ∙ append_assoc old a (n ++ l)

pub returns : goal.returns
returns c = on_ok c.put_segment.result (grown _ _ _ _ _ _ _ c.in_ok-extend_from_slice.ensures.items c.in_ok-put_number_at.ensures) c.put_segment.ensures
