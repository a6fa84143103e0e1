-- The steps of the loops over attributes.
use Rattle.std.proofs.Common.{◌≡◌, ℕ, suc, zero, ◌<◌, List, [], ◌∷◌, ◌++◌, length, drop, Option, Some, None, refl, sym, ap, ◌∙◌, arith, append_assoc, option_map, false}
use Rattle.std.specs.Prelude.{◌==◌}
use Rattle.std.proofs.lemmas.Bool.{false≢true}
use Rattle.chart_model.specs.declared.records.Attribute.{Attribute}
use Rattle.readings.specs.Finds.{◌>>=◌}
use Rattle.s57_records.specs.Formats.{attribute_at}
use Rattle.record_values.specs.Attributes.{attributes_at, attributes_in, attributes_of}

-- bytes whose number isn't 0
pub some_bytes : (bytes : List ℕ) → false ≡ (length bytes == 0) → 0 < length bytes
some_bytes [] h = absurd (false≢true h)
some_bytes (byte ∷ bytes) h = omega arith

-- bytes that don't begin with an attribute are none
pub no_attributes : (turns : ℕ) (bytes : List ℕ) → 0 < length bytes → attribute_at bytes ≡ None → attributes_at turns bytes ≡ None
no_attributes turns [] h e = absurd (omega arith)
no_attributes zero (byte ∷ bytes) h e = refl
no_attributes (suc turns) (byte ∷ bytes) h e = rw e

joined : (old : List Attribute) (a : Attribute) (o : Option (List Attribute))
    → option_map (λ more. old ++ more) (o >>= λ others. Some (a ∷ others)) ≡ option_map (λ more. (old ++ a ∷ []) ++ more) o
joined old a None = refl
joined old a (Some others) = ap Some (sym (append_assoc old (a ∷ []) others))

-- the first attribute goes behind those that are there
pub next_attribute : (turns rest : ℕ) (bytes : List ℕ) (old : List Attribute) (code used : ℕ) (text : List ℕ) → turns ≡ suc rest → 0 < length bytes
    → attribute_at bytes ≡ Some (code, (text, used))
    → option_map (λ more. old ++ more) (attributes_at turns bytes) ≡ option_map (λ more. (old ++ record { code = code; text = text } ∷ []) ++ more) (attributes_at rest (drop used bytes))
next_attribute turns rest [] old code used text is h e = absurd (omega arith)
next_attribute turns rest (byte ∷ bytes) old code used text is h e =
    let a : Attribute = record { code = code; text = text } in
    let open_it : attributes_at (suc rest) (byte ∷ bytes) ≡ (attributes_at rest (drop used (byte ∷ bytes)) >>= λ others. Some (a ∷ others)) = rw e in
    ap (λ n. option_map (λ more. old ++ more) (attributes_at n (byte ∷ bytes))) is ∙ ap (option_map (λ more. old ++ more)) open_it ∙ joined old a (attributes_at rest (drop used (byte ∷ bytes)))

-- a body that isn't attributes to its end leaves none
pub none_of : (old : List Attribute) (body : List ℕ) (bodies : List (List ℕ)) → option_map (λ more. old ++ more) (attributes_in body) ≡ None → attributes_of (body ∷ bodies) ≡ None
none_of old body bodies h = go (attributes_in body) refl
  where
    go : (o : Option (List Attribute)) → attributes_in body ≡ o → attributes_of (body ∷ bodies) ≡ None
    go None e = rw e
    go (Some xs) e = let some : option_map (λ more. old ++ more) (Some xs) ≡ None = ap (option_map (λ more. old ++ more)) (sym e) ∙ h in cc

both : (old here : List Attribute) (o : Option (List Attribute)) → option_map (λ more. old ++ more) (o >>= λ others. Some (here ++ others)) ≡ option_map (λ more. (old ++ here) ++ more) o
both old here None = refl
both old here (Some others) = ap Some (sym (append_assoc old here others))

-- those of a body go behind those that are there
pub next_body : (old new : List Attribute) (body : List ℕ) (bodies : List (List ℕ)) → option_map (λ more. old ++ more) (attributes_in body) ≡ Some new
    → option_map (λ more. new ++ more) (attributes_of bodies) ≡ option_map (λ more. old ++ more) (attributes_of (body ∷ bodies))
next_body old new body bodies h = go (attributes_in body) refl
  where
    go : (o : Option (List Attribute)) → attributes_in body ≡ o → option_map (λ more. new ++ more) (attributes_of bodies) ≡ option_map (λ more. old ++ more) (attributes_of (body ∷ bodies))
    go None e = let some : None ≡ Some new = ap (option_map (λ more. old ++ more)) (sym e) ∙ h in cc
    go (Some here) e =
        let some : Some (old ++ here) ≡ Some new = ap (option_map (λ more. old ++ more)) (sym e) ∙ h in
        let is : old ++ here ≡ new = cc in
        let opened : attributes_of (body ∷ bodies) ≡ (attributes_of bodies >>= λ others. Some (here ++ others)) = rw e in
        ap (λ l. option_map (λ more. l ++ more) (attributes_of bodies)) (sym is) ∙ sym (both old here (attributes_of bodies)) ∙ ap (option_map (λ more. old ++ more)) (sym opened)
