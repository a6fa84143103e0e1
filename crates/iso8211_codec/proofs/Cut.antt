-- A list of fields as tags, lengths and bytes, and back.
use Rattle.std.proofs.Common.{◌≡◌, ℕ, ◌+◌, ◌-◌, ◌≤◌, true, eqb, List, [], ◌∷◌, ◌++◌, length, Ok, refl, sym, ap, ◌∙◌, arith}
use Rattle.std.specs.Prelude.{slice_index}
use Rattle.std.specs.List.{sum, list_all, AllByRecursion}
use Rattle.std.proofs.lemmas.Bool.{and_from}
use Rattle.std.proofs.lemmas.List.{take_at, drop_at, length-append, length-map}
use Rattle.std.proofs.lemmas.List.Sums.{sum_by-cons}
use Rattle.iso8211_codec.specs.Reading.{Part, data_record}
use Rattle.iso8211_codec.specs.Layout.{IsField, MakeRecord, is_ended, cut, tags_of, lens_of, bytes_of, record_of}
use Rattle.iso8211_codec.specs.Law.{IsCutFrom}
use Rattle.iso8211_codec.proofs.Again.{read_cut}

cut_again : (ps : List Part) → cut (tags_of ps) (lens_of ps) (bytes_of ps) ≡ ps
cut_again [] = refl
cut_again (p ∷ ps) = rw (take_at p.bytes (bytes_of ps) (length p.bytes) refl, drop_at p.bytes (bytes_of ps) (length p.bytes) refl, cut_again ps) refl

-- a field that 0x1E ends has a byte
has_byte : (bytes : List ℕ) → eqb (slice_index bytes (length bytes - 1)) 30 ≡ true → 1 ≤ length bytes
has_byte [] e = absurd cc
has_byte (b ∷ bytes) e = omega arith

all_named : (ps : List Part) → AllByRecursion IsField ps → AllByRecursion (λ tag. length tag ≡ 4) (tags_of ps)
all_named [] h = tt
all_named (p ∷ ps) h = (h.0.named, all_named ps h.1)

all_full : (ps : List Part) → AllByRecursion IsField ps → AllByRecursion (λ n. 1 ≤ n) (lens_of ps)
all_full [] h = tt
all_full (p ∷ ps) h = (has_byte p.bytes h.0.ended, all_full ps h.1)

all_ended : (ps : List Part) → AllByRecursion IsField ps → list_all is_ended ps ≡ true
all_ended [] h = refl
all_ended (p ∷ ps) h = and_from (is_ended p) (list_all is_ended ps) h.0.ended (all_ended ps h.1)

whole_of : (ps : List Part) → sum (lens_of ps) ≡ length (bytes_of ps)
whole_of [] = refl
whole_of (p ∷ ps) = sum_by-cons (λ (x : ℕ). x) (length p.bytes) (lens_of ps) ∙ ap (λ (n : ℕ). length p.bytes + n) (whole_of ps) ∙ sym (length-append p.bytes (bytes_of ps))

pub cuts : (ps : List Part) → MakeRecord ps → IsCutFrom ps
cuts ps h = record {
  fields = record {
    some = omega (arith, h.some, length-map ps (λ (p : Part). length p.bytes));
    paired = length-map ps (λ (p : Part). p.tag) ∙ sym (length-map ps (λ (p : Part). length p.bytes));
    full = all_full ps h.each;
    whole = whole_of ps;
    fits = h.fits;
    ended = rw cut_again (all_ended ps h.each);
  };
  again = cut_again ps;
}

pub reads_back : (at : ℕ) (ps : List Part) (rest : List ℕ) → MakeRecord ps → data_record at (record_of ps ++ rest) ≡ Ok (record { at = at; parts = ps }, rest)
reads_back at ps rest h =
    let c = cuts ps h in
    read_cut at (tags_of ps) (lens_of ps) (bytes_of ps) rest (all_named ps h.each) c.fields ∙ ap (λ (qs : List Part). Ok (record { at = at; parts = qs }, rest)) c.again
