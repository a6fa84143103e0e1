-- How much a record can hold.
use Rattle.std.proofs.Common.{◌≡◌, ℕ, zero, suc, ◌+◌, ◌-◌, ◌*◌, ◌/◌, ◌^◌, ◌<◌, ◌≤◌, List, [], ◌∷◌, ◌++◌, length, drop, map, Bool, true, false, Option, Some, None, Ok, refl, sym, ap, ◌∙◌, arith, cond, flat_map, option_to_list, length-append, length-take, length-drop, lit<}
use Rattle.std.specs.Prelude.{◌&&◌, ◌==◌, nat_le, slice_index, slice_range}
use Rattle.std.specs.Option.{ok_or}
use Rattle.std.specs.List.{range_with_len}
use Rattle.std.proofs.Math.Nat.{mul-le-mul_left, mul-div-le, pow-suc, pow-le-pow_right}
use Rattle.std.proofs.lemmas.Bool.Decides.{nat_tests}
use Rattle.iso8211_codec.specs.Digits.{is_digit, digits, number}
use Rattle.iso8211_codec.specs.Law.{RecordLaws}
use Rattle.iso8211_codec.specs.Layout.{bytes_of}
use Rattle.readings.specs.Readings.{need}
use Rattle.readings.proofs.Steps.{bind_ok, ok_or_ok, need_ok, same_ok}
use Rattle.iso8211_codec.specs.Reading.{Part, Rec, Seen, seen, part, body_of, is_free, size_of, base_of, entry_map_of, fields_of, first_record, data_record}
use Rattle.iso8211_codec.specs.declared.fault.CodecFault.TheVariants as fault
use Rattle.record_values.specs.Fields.{bodies, is_tagged}
use Rattle.record_values.specs.Groups.{each}

-- the bytes of all bodies
abbrev pub weight : List Seen → ℕ
weight [] = 0
weight (f ∷ fields) = length f.body + weight fields

-- the bytes of a list of bodies
abbrev total : List (List ℕ) → ℕ
total [] = 0
total (b ∷ bs) = length b + total bs

-- ---- groups

one_at_most : {X : Type 0} (o : Option X) → length (option_to_list o) ≤ 1
one_at_most None = omega arith
one_at_most (Some x) = omega arith

each_few : {X : Type 0} (f : ℕ → Option X) (a n : ℕ) → length (flat_map (λ k. option_to_list (f k)) (range_with_len a n)) ≤ n
each_few f a zero = omega arith
each_few f a (suc n) = omega (arith, length-append (option_to_list (f a)) (flat_map (λ k. option_to_list (f k)) (range_with_len (a + 1) n)), one_at_most (f a), each_few f (a + 1) n)

groups_few : {X : Type 0} (f : List ℕ → ℕ → Option X) (size : ℕ) → 0 < size → (bs : List (List ℕ)) → size * length (flat_map (λ body. each (f body) (length body / size)) bs) ≤ total bs
groups_few f size h [] = omega arith
groups_few {X} f size h (b ∷ bs) =
    let here : List X = each (f b) (length b / size) in
    let others : List X = flat_map (λ body. each (f body) (length body / size)) bs in
    let few : size * length here ≤ size * (length b / size) = mul-le-mul_left size (each_few (f b) 0 (length b / size)) in
    let within : size * (length b / size) ≤ length b = mul-div-le (length b) size in
    let rest : size * length others ≤ total bs = groups_few f size h bs in
    let both : size * length (here ++ others) ≤ length b + total bs = rw (length-append here others) (omega (arith, few, within, rest)) in
    both

light_step : (tag : List ℕ) (f : Seen) (fields : List Seen) (b : Bool) → is_tagged tag f ≡ b → total (bodies tag fields) ≤ weight fields → total (bodies tag (f ∷ fields)) ≤ weight (f ∷ fields)
light_step tag f fields true e h = rw e (omega arith)
light_step tag f fields false e h = rw e (omega arith)

bodies_light : (tag : List ℕ) (fields : List Seen) → total (bodies tag fields) ≤ weight fields
bodies_light tag [] = omega arith
bodies_light tag (f ∷ fields) = light_step tag f fields (is_tagged tag f) refl (bodies_light tag fields)

-- groups of all fields with a tag
pub groups_light : {X : Type 0} (f : List ℕ → ℕ → Option X) (size : ℕ) (tag : List ℕ) (fields : List Seen) → 0 < size → size * length (flat_map (λ body. each (f body) (length body / size)) (bodies tag fields)) ≤ weight fields
groups_light f size tag fields h = omega (arith, groups_few f size h (bodies tag fields), bodies_light tag fields)

-- ---- a record

le_of : {a b : ℕ} → nat_le a b ≡ true → a ≤ b
le_of h = grind (arith, nat_tests)

both_true : (a b : Bool) → (a && b) ≡ true → a ≡ true
both_true true b h = refl
both_true false b h = cc

-- a number of so many digits
digit_small : (byte : ℕ) → is_digit byte ≡ true → byte ≤ 57
digit_small byte h = grind (arith, nat_tests)

digits_step : (n byte v p : ℕ) → byte ≤ 57 → v < ((10 * n + (byte - 48)) + 1) * p → v < (n + 1) * (p * 10)
digits_step n byte v p small h =
    let factor : (10 * n + (byte - 48)) + 1 ≤ 10 * (n + 1) = omega arith in
    let more : p * ((10 * n + (byte - 48)) + 1) ≤ p * (10 * (n + 1)) = mul-le-mul_left p factor in
    omega (arith, more)

digits_next : (n byte : ℕ) (bytes : List ℕ) (v : ℕ) (b : Bool) → is_digit byte ≡ b → (digits (10 * n + (byte - 48)) bytes ≡ Some v → v < ((10 * n + (byte - 48)) + 1) * 10 ^ length bytes)
    → cond b (digits (10 * n + (byte - 48)) bytes) None ≡ Some v → v < (n + 1) * (10 ^ length bytes * 10)
digits_next n byte bytes v true e few h = digits_step n byte v (10 ^ length bytes) (digit_small byte e) (few h)
digits_next n byte bytes v false e few h = cc

digits_few : (n : ℕ) (bytes : List ℕ) (v : ℕ) → digits n bytes ≡ Some v → v < (n + 1) * 10 ^ length bytes
digits_few n [] v h = let is : n ≡ v = cc in omega arith
digits_few n (byte ∷ bytes) v h = rw (pow-suc 10 (length bytes)) (digits_next n byte bytes v (is_digit byte) refl (digits_few (10 * n + (byte - 48)) bytes v) h)

five_few : (bytes : List ℕ) (v : ℕ) → length bytes ≤ 5 → number bytes ≡ Some v → v < 100000
five_few bytes v h e =
    let few = digits_few 0 bytes v e in
    let most : 10 ^ length bytes ≤ 10 ^ 5 = pow-le-pow_right (lit< tt) h in
    omega (arith, few, most)

size_few : (letter at : ℕ) (bytes : List ℕ) (size : ℕ) → size_of letter at bytes ≡ Ok size → (24 ≤ size) × (size < 100000)
size_few letter at bytes size h =
    let long = bind_ok (need (nat_le 24 (length bytes)) (fault.Short at)) _ size h in
    let read = bind_ok (ok_or (number (part 0 5 bytes)) (fault.Leader at)) _ size long.2 in
    let meant = bind_ok (need (nat_le 24 read.0 && (slice_index bytes 6 == letter)) (fault.Leader at)) _ size read.2 in
    let is : read.0 ≡ size = cc (meant.2) in
    let front : length (part 0 5 bytes) ≤ 5 = omega (arith, length-take 5 (drop 0 bytes)) in
    let few : read.0 < 100000 = five_few (part 0 5 bytes) read.0 front (ok_or_ok _ _ _ read.1) in
    let whole : 24 ≤ read.0 = le_of (both_true (nat_le 24 read.0) (slice_index bytes 6 == letter) (need_ok _ _ _ meant.1)) in
    (omega (arith, is, whole), omega (arith, is, few))

body_light : (p : Part) → length (body_of p) ≤ length p.bytes
body_light p = go (is_free p.tag) refl
  where
    go : (b : Bool) → is_free p.tag ≡ b → length (body_of p) ≤ length p.bytes
    go true e = rw e (omega arith)
    go false e = rw e (omega (arith, length-take (length p.bytes - 1) p.bytes))

seen_light : (parts : List Part) → weight (map seen parts) ≤ length (bytes_of parts)
seen_light [] = omega arith
seen_light (p ∷ parts) = omega (arith, length-append p.bytes (bytes_of parts), body_light p, seen_light parts)

-- what a record takes of the bytes, and what its fields hold
pub record_few : RecordLaws → (at : ℕ) (bytes : List ℕ) (x : Rec × List ℕ) → data_record at bytes ≡ Ok x → (24 + length x.1 ≤ length bytes) × (weight (map seen x.0.parts) < 100000)
unfolding data_record
record_few laws at bytes x h =
    let size = bind_ok (size_of 68 at bytes) _ x h in
    let base = bind_ok (base_of at size.0 bytes) _ x size.2 in
    let there = bind_ok (need (nat_le size.0 (length bytes)) (fault.Short at)) _ x base.2 in
    let fields = bind_ok (fields_of at (entry_map_of bytes) (slice_index bytes (base.0 - 1)) (slice_range bytes 24 (base.0 - 1)) (slice_range bytes base.0 size.0)) _ x there.2 in
    let few = size_few 68 at bytes size.0 size.1 in
    let rest : drop size.0 bytes ≡ x.1 = ap (λ (y : Rec × List ℕ). y.1) (same_ok _ _ fields.2) in
    let left : length x.1 ≡ length bytes - size.0 = ap length (sym rest) ∙ length-drop size.0 bytes in
    let within : size.0 ≤ length bytes = le_of (need_ok _ _ _ there.1) in
    let tiles = laws.tiles at bytes x.0 x.1 h in
    let all : length bytes ≡ length tiles.0 + (length (bytes_of x.0.parts) + length x.1) = ap length tiles.1 ∙ length-append tiles.0 (bytes_of x.0.parts ++ x.1) ∙ ap (λ n. length tiles.0 + n) (length-append (bytes_of x.0.parts) x.1) in
    (omega (arith, few.0, left, within), omega (arith, few.1, left, within, all, seen_light x.0.parts))

-- no more bytes follow the first record than there are
pub first_short : (bytes : List ℕ) (x : ℕ × List ℕ) → first_record bytes ≡ Ok x → length x.1 ≤ length bytes
unfolding first_record
first_short bytes x h =
    let size = bind_ok (size_of 76 0 bytes) _ x h in
    let there = bind_ok (need (nat_le size.0 (length bytes)) (fault.Short 0)) _ x size.2 in
    let rest : drop size.0 bytes ≡ x.1 = ap (λ (y : ℕ × List ℕ). y.1) (same_ok _ x there.2) in
    let few : length x.1 ≡ length bytes - size.0 = ap length (sym rest) ∙ length-drop size.0 bytes in
    omega (arith, few)
