-- A list of bytes that is appended to again and again keeps its room.
use Rattle.std.proofs.Common.{◌≡◌, ◌≤◌, ℕ, ◌+◌, List, ◌++◌, Result, Ok, Err, length, vec_len, ap, ◌∙◌, arith}
use Rattle.std.specs.Prelude.{Vec, vec_capacity}
use Rattle.std.specs.Result.{OnOk}
use Rattle.std.proofs.lemmas.List.{length-append}
use Rattle.iso8211_codec.specs.Room.{KeepsRoom}

-- room for n bytes, as long as no more stand there
pub kept_from : {Z : Type 0} (n : ℕ) (b c : Vec ℕ Z) (more : List ℕ) → c.items ≡ b.items ++ more → (vec_len b ≤ n → vec_capacity b ≡ n) → KeepsRoom b c → vec_len c ≤ n → vec_capacity c ≡ n
kept_from n b c more put first second fits =
    let longer : length c.items ≡ length b.items + length more = ap length put ∙ length-append b.items more in
    let before : vec_capacity b ≡ n = first (omega (arith, longer, b.ok.0, c.ok.0, fits)) in
    second (omega (arith, before, fits)) ∙ before

pub kept_through : {Z : Type 0} (a b c : Vec ℕ Z) (more : List ℕ) → c.items ≡ b.items ++ more → KeepsRoom a b → KeepsRoom b c → KeepsRoom a c
kept_through a b c more put first second = kept_from (vec_capacity a) b c more put first second

-- the last of several that are appended, where it was
pub last_kept : {Z T E : Type 0} (r : Result T E) (a b c : Vec ℕ Z) (more : List ℕ) → OnOk r (c.items ≡ b.items ++ more) → KeepsRoom a b → OnOk r (KeepsRoom b c) → OnOk r (KeepsRoom a c)
last_kept (Err e) a b c more put first second = tt
last_kept (Ok x) a b c more put first second = kept_through a b c more put first second
