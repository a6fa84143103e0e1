use Rattle.std.proofs.Common.{List, ℕ, [], ◌∷◌, ◌++◌, refl, sym, ap, ◌∙◌, append-nil}
use Rattle.s57_records.specs.Formats.{field_of, A, T}
use Rattle.s57_records.specs.Fields.{dspm, dspm_values, numbers, number_values}
use Rattle.s57_records.proofs.Again.{field_append, closed}
use Rattle.s57_records.proofs.dspm.write_dspm.Goals as goal

pub returns : goal.returns
returns c =
    let v = c.args.value.now in
    let last = T v.comt.now ∷ [] in
    closed c.args.out.now.items c.reserve.new.self.items c.put_numbers.new.out.items c.put_text.new.out.items c.put.new.out.items
    (field_of numbers (number_values v)) (field_of (A ∷ []) last) (field_of dspm (dspm_values v))
    c.reserve.ensures.items c.put_numbers.ensures.items
    (c.put_text.ensures.items ∙ ap (λ (t : List ℕ). c.put_numbers.new.out.items ++ t) (sym (append-nil (v.comt.now ++ 31 ∷ []))))
    c.put.ensures.items (field_append numbers (A ∷ []) (number_values v) last refl)
