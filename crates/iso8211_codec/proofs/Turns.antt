-- A walk over the records of a file, one turn after the other.
use Rattle.std.proofs.Common.{◌≡◌, ℕ, zero, suc, ◌+◌, ◌-◌, ◌<◌, ◌≤◌, Bool, true, false, eqb, leb, ◌&&◌, List, [], ◌∷◌, ◌++◌, length, drop, Ok, Err, refl, sym, ap, ◌∙◌, arith, length-drop, length-append}
use Rattle.std.specs.Prelude.{Result, slice_index, slice_range}
use Rattle.std.specs.Option.{ok_or}
use Rattle.std.specs.List.{flat_map, AllByRecursion}
use Rattle.std.proofs.lemmas.Bool.{leb-true, eqb-true, and_parts}
use Rattle.iso8211_codec.specs.declared.fault.CodecFault.{CodecFault}
use Rattle.iso8211_codec.specs.declared.fault.CodecFault.TheVariants as fault
use Rattle.iso8211_codec.specs.Digits.{number}
use Rattle.readings.specs.Readings.{need}
use Rattle.readings.proofs.Steps.{bind_ok, need_ok}
use Rattle.iso8211_codec.specs.Reading.{part, Part, Rec, size_of, is_width, base_of, entry_map_of, fields_of, data_record}
use Rattle.iso8211_codec.specs.Layout.{MakeRecord, record_of}
use Rattle.iso8211_codec.specs.Walk.{and_then, walk, answers, lying}
use Rattle.iso8211_codec.proofs.Cut.{reads_back}

-- ---- what a record that is read says of its bytes

ok_is : {A : Type 0} (r : Result A CodecFault) (x y : A) → r ≡ Ok x → r ≡ Ok y → x ≡ y
ok_is r x y e1 e2 = cc

-- a record that is read: its parts, and the bytes after it
pub record IsRead (at : ℕ) (bytes : List ℕ) (x : Rec × List ℕ) : Type 0 where
  pub size : ℕ
  pub base : ℕ
  pub some : 24 ≤ size
  pub within : base ≤ size
  pub long : size ≤ length bytes
  pub fields : fields_of at (entry_map_of bytes) (slice_index bytes (base - 1)) (slice_range bytes 24 (base - 1)) (slice_range bytes base size) ≡ Ok x.0
  pub rest : x.1 ≡ drop size bytes

size_some : (letter at : ℕ) (bytes : List ℕ) (size : ℕ) → size_of letter at bytes ≡ Ok size → 24 ≤ size
size_some letter at bytes size e =
    let long = bind_ok (need (leb 24 (length bytes)) (fault.Short at)) _ size e in
    let n = bind_ok (ok_or (number (part 0 5 bytes)) (fault.Leader at)) _ size long.2 in
    let meant = bind_ok (need (leb 24 n.0 && eqb (slice_index bytes 6) letter) (fault.Leader at)) _ size n.2 in
    let same : n.0 ≡ size = ok_is (Ok n.0) n.0 size refl meant.2 in
    let least = leb-true 24 n.0 (and_parts (leb 24 n.0) (eqb (slice_index bytes 6) letter) (need_ok _ _ meant.0 meant.1)).0 in
    omega arith

base_within : (at size : ℕ) (bytes : List ℕ) (base : ℕ) → base_of at size bytes ≡ Ok base → base ≤ size
base_within at size bytes base e =
    let n = bind_ok (ok_or (number (part 12 5 bytes)) (fault.Leader at)) _ base e in
    let placed = bind_ok (need (leb 25 n.0 && leb n.0 size) (fault.Leader at)) _ base n.2 in
    let widths = bind_ok (need (is_width (slice_index bytes 20) && (is_width (slice_index bytes 21) && eqb (slice_index bytes 23) 52)) (fault.Leader at)) (λ (holds : Bool). Ok n.0) base placed.2 in
    let same : n.0 ≡ base = ok_is (Ok n.0) n.0 base refl widths.2 in
    let most = leb-true n.0 size (and_parts (leb 25 n.0) (leb n.0 size) (need_ok _ _ placed.0 placed.1)).1 in
    omega arith

pub is_read : (at : ℕ) (bytes : List ℕ) (x : Rec × List ℕ) → data_record at bytes ≡ Ok x → IsRead at bytes x
unfolding data_record
is_read at bytes x e =
    let s = bind_ok (size_of 68 at bytes) _ x e in
    let b = bind_ok (base_of at s.0 bytes) _ x s.2 in
    let there = bind_ok (need (leb s.0 (length bytes)) (fault.Short at)) _ x b.2 in
    let f = bind_ok (fields_of at (entry_map_of bytes) (slice_index bytes (b.0 - 1)) (slice_range bytes 24 (b.0 - 1)) (slice_range bytes b.0 s.0)) _ x there.2 in
    let pair : (f.0, drop s.0 bytes) ≡ x = cc in
    record {
      size = s.0;
      base = b.0;
      some = size_some 68 at bytes s.0 s.1;
      within = base_within at s.0 bytes b.0 b.1;
      long = leb-true s.0 (length bytes) (need_ok _ _ there.0 there.1);
      fields = f.1 ∙ ap (λ (y : Rec × List ℕ). Ok y.0) pair;
      rest = sym (ap (λ (y : Rec × List ℕ). y.1) pair);
    }

-- ---- turns

-- what comes after a record is shorter
shorter : (at : ℕ) (bytes : List ℕ) (x : Rec × List ℕ) → data_record at bytes ≡ Ok x → length x.1 < length bytes
shorter at bytes x e =
    let r = is_read at bytes x e in
    let left : length x.1 ≡ length bytes - r.size = ap length r.rest ∙ length-drop r.size bytes in
    omega (arith, r.some, r.long)

same_after : (r : Result (Rec × List ℕ) CodecFault) (f g : List ℕ → List (Result Rec CodecFault)) → ((x : Rec × List ℕ) → r ≡ Ok x → f x.1 ≡ g x.1) → and_then r f ≡ and_then r g
same_after (Ok x) f g same = ap (λ (others : List (Result Rec CodecFault)). Ok x.0 ∷ others) (same x refl)
same_after (Err e) f g same = refl

-- any number of turns that is no less than the number of bytes gives the same
enough : (n m at : ℕ) (bytes : List ℕ) → length bytes ≤ n → length bytes ≤ m → walk n at bytes ≡ walk m at bytes
unfolding walk
enough zero zero at bytes hn hm = refl
enough zero (suc m) at [] hn hm = refl
enough zero (suc m) at (b ∷ bytes) hn hm = absurd (omega arith)
enough (suc n) zero at [] hn hm = refl
enough (suc n) zero at (b ∷ bytes) hn hm = absurd (omega arith)
enough (suc n) (suc m) at [] hn hm = refl
enough (suc n) (suc m) at (b ∷ bytes) hn hm =
    same_after (data_record at (b ∷ bytes)) _ _
    (λ x e. let s = shorter at (b ∷ bytes) x e in enough n m (at + (length (b ∷ bytes) - length x.1)) x.1 (omega arith) (omega arith))

-- at the end nothing is answered
pub at_end : (at : ℕ) (bytes : List ℕ) → eqb (length bytes) 0 ≡ true → answers at bytes ≡ []
unfolding walk
at_end at [] h = refl
at_end at (b ∷ bytes) h = absurd (let none = eqb-true (length (b ∷ bytes)) 0 h in omega arith)

-- a record is answered, and then what comes after it
pub after_record : (at : ℕ) (bytes : List ℕ) (x : Rec × List ℕ) → data_record at bytes ≡ Ok x → answers at bytes ≡ Ok x.0 ∷ answers (at + (length bytes - length x.1)) x.1
unfolding walk
after_record at [] x e = absurd (let s = shorter at [] x e in omega arith)
after_record at (b ∷ bytes) x e =
    let s = shorter at (b ∷ bytes) x e in
    rw e (ap (λ (others : List (Result Rec CodecFault)). Ok x.0 ∷ others) (enough (length bytes) (length x.1) (at + (length (b ∷ bytes) - length x.1)) x.1 (omega arith) (omega arith)))

-- a fault is answered, and nothing after it
pub after_fault : (at place : ℕ) (bytes : List ℕ) (e : CodecFault) → eqb (length bytes) 0 ≡ false → data_record at bytes ≡ Err e → answers at bytes ≡ Err e ∷ answers place []
unfolding walk
after_fault at place [] e some h = absurd cc
after_fault at place (b ∷ bytes) e some h = rw h refl

pub walks_back : (at : ℕ) (records : List (List Part)) → AllByRecursion MakeRecord records → answers at (flat_map record_of records) ≡ lying at records
walks_back at [] h = at_end at [] refl
walks_back at (parts ∷ others) h =
    let rest = flat_map record_of others in
    let place : length (record_of parts ++ rest) - length rest ≡ length (record_of parts) = omega (arith, length-append (record_of parts) rest) in
    after_record at (record_of parts ++ rest) (record { at = at; parts = parts }, rest) (reads_back at parts rest h.0)
    ∙ rw place (ap (λ (more : List (Result Rec CodecFault)). Ok (record { at = at; parts = parts }) ∷ more) (walks_back (at + length (record_of parts)) others h.1))
