-- What each step of a reading that gave a value gave.
use Rattle.std.proofs.Common.{◌≡◌, Bool, true, false, Option, Some, None, Result, Ok, Err, refl}
use Rattle.std.specs.Option.{ok_or}
use Rattle.readings.specs.Readings.{◌>>=◌, need, Unless}
use Rattle.readings.specs.Finds as find

-- what comes before, and what comes after it, where both give something
pub bind_ok : {F A B : Type 0} (r : Result A F) (f : A → Result B F) (y : B) → (r >>= f) ≡ Ok y → (x : A) × (r ≡ Ok x) × (f x ≡ Ok y)
bind_ok (Ok x) f y h = (x, refl, h)
bind_ok (Err e) f y h = absurd cc

pub bind_some : {X Y : Type 0} (o : Option X) (f : X → Option Y) (y : Y) → (find.◌>>=◌ o f) ≡ Some y → (x : X) × (o ≡ Some x) × (f x ≡ Some y)
bind_some (Some x) f y h = (x, refl, h)
bind_some None f y h = absurd cc

pub need_ok : {F : Type 0} (b : Bool) (e : F) (x : Bool) → need b e ≡ Ok x → b ≡ true
need_ok true e x h = refl
need_ok false e x h = absurd cc

pub ok_or_ok : {F A : Type 0} (o : Option A) (e : F) (x : A) → ok_or o e ≡ Ok x → o ≡ Some x
ok_or_ok None e x h = absurd cc
ok_or_ok (Some a) e x h = cc

-- what holds holds unless
pub unless : {P : Type 0} (b : Bool) → P → Unless b P
unless true p = tt
unless false p = p

pub same_ok : {F A : Type 0} (x y : A) → ◌≡◌ {A = Result A F} (Ok x) (Ok y) → x ≡ y
same_ok x y h = cc
