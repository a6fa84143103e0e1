-- What a modification makes of a list, told by the record that comes of it.
use Rattle.std.proofs.Common.{◌≡◌, ℕ, cond, Result, Ok, List, map, sym, ap, ◌∙◌}
use Rattle.record_table.specs.Records.{is_numbered}
use Rattle.readings.specs.Readings.{◌>>=◌}
use Rattle.update_reader.specs.declared.change.Edit.{Edit}
use Rattle.update_reader.specs.declared.change.Deed.TheVariants.{Modify}
use Rattle.update_reader.specs.declared.fault.UpdateFault.{UpdateFault}
use Rattle.update_apply.specs.Making.{Keyed, record_due, list_after}
use Rattle.update_apply.proofs.Steps.{due_is}

pub modified_list : {X : Type 0} (k : Keyed X) (n rver : ℕ) (e : Edit) (xs ys : List X) (old new : X) → record_due k n rver xs ≡ Ok old → k.edited rver e old ≡ Ok new
    → k.number new ≡ k.number old → ys ≡ map (λ y. cond (is_numbered k.number (k.number new) y) new y) xs → list_after k (Modify n rver e) xs ≡ Ok ys
unfolding list_after
modified_list {X} k n rver e xs ys old new due edited same is =
    let number : k.number new ≡ n = same ∙ due_is k n rver xs old due in
    ap (λ (r : Result X UpdateFault). r >>= λ x. k.edited rver e x >>= λ new. Ok (map (λ y. cond (is_numbered k.number n y) new y) xs)) due
    ∙ ap (λ (r : Result X UpdateFault). r >>= λ new. Ok (map (λ y. cond (is_numbered k.number n y) new y) xs)) edited
    ∙ ap Ok (ap (λ m. map (λ y. cond (is_numbered k.number m y) new y) xs) (sym number) ∙ sym is)
