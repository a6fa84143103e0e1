-- Fields that are added one after the other.
use Rattle.std.proofs.Common.{◌≡◌, ℕ, ◌-◌, List, [], ◌∷◌, ◌++◌, Result, Ok, Err, length, vec_len, sym, ap, ◌∙◌, append_assoc, append-nil, arith}
use Rattle.std.specs.Result.{OnOk}
use Rattle.std.proofs.lemmas.List.{map-append, length-append}
use Rattle.std.proofs.lemmas.List.Concat.{flat_map-append}
use Rattle.cell_writer.specs.Drafts.{Holds, Adds}
use Rattle.cell_writer.specs.declared.draft.Draft.{Draft}
use Rattle.iso8211_codec.specs.Layout.{tags_of, lens_of, bytes_of}
use Rattle.iso8211_codec.specs.Reading.{Part}

pub then : {d e : Draft} (ps qs : List Part) → Holds ps d → Adds qs d e → Holds (ps ++ qs) e
then ps qs h a = record {
  tags = a.tags ∙ ap (λ t. t ++ tags_of qs) h.tags ∙ sym (map-append (λ (p : Part). p.tag) ps qs);
  lens = a.lens ∙ ap (λ t. t ++ lens_of qs) h.lens ∙ sym (map-append (λ (p : Part). length p.bytes) ps qs);
  bodies = a.bodies ∙ ap (λ t. t ++ bytes_of qs) h.bodies ∙ sym (flat_map-append (λ (p : Part). p.bytes) ps qs);
}

pub three : {d e f : Draft} (p q r : Part) → Holds (p ∷ []) d → Adds (q ∷ []) d e → Adds (r ∷ []) e f → Holds (p ∷ q ∷ r ∷ []) f
three p q r h a b = then (p ∷ q ∷ []) (r ∷ []) (then (p ∷ []) (q ∷ []) h a) b

-- a field of bytes that were put and then ended
pub added : {T E : Type 0} (r : Result T E) (d e : Draft) (tag bytes middle : List ℕ) (from : ℕ) → from ≡ vec_len d.bodies → middle ≡ d.bodies.items ++ bytes
    → OnOk r (e.tags.items ≡ d.tags.items ++ tag ∷ []) → OnOk r (e.lens.items ≡ d.lens.items ++ (length middle - from) ∷ []) → e.bodies.items ≡ middle
    → OnOk r (Adds (record { tag = tag; bytes = bytes } ∷ []) d e)
added (Err x) d e tag bytes middle from at put tags lens bodies = tt
added (Ok x) d e tag bytes middle from at put tags lens bodies = record {
  tags = tags;
  lens = lens ∙ ap (λ n. d.lens.items ++ n ∷ []) long;
  bodies = bodies ∙ put ∙ ap (λ t. d.bodies.items ++ t) (sym (append-nil bytes));
}
  where
    long : length middle - from ≡ length bytes
    long = omega (arith, at, ap length put, length-append d.bodies.items bytes, d.bodies.ok.0)

-- two groups and the byte that ends a field
pub two_and_end : (old p q r a b e : List ℕ) → p ≡ old ++ a → q ≡ p ++ b → r ≡ q ++ e → r ≡ old ++ ((a ++ (b ++ [])) ++ e)
two_and_end old p q r a b e first second third = rw (third, second, first, append-nil b) (simp append_assoc)
