-- What the pairs of a header give, key by key.
use Rattle.std.proofs.Common.{◌≡◌, ◌≢◌, ℕ, zero, suc, ◌<◌, List, [], ◌∷◌, Bool, true, false, cond, is_some, Option, Some, None, Ok, Err, refl, sym, ap, subst, ◌∙◌, ◌⊎◌, inl, inr, arith}
use Rattle.std.specs.List.{slice_get}
use Rattle.std.specs.Option.{option_map}
use Rattle.exact_num.specs.Number.{Number}
use Rattle.grid_reader.specs.declared.fault.GridFault.TheVariants as fault
use Rattle.grid_reader.specs.declared.key.GridKey.{GridKey}
use Rattle.grid_reader.specs.declared.key.GridKey.TheVariants as grid_key
use Rattle.grid_reader.specs.declared.key.Key.{Key}
use Rattle.grid_reader.specs.declared.key.Key.TheVariants.{Ncols, Nrows, XCorner, XCenter, YCorner, YCenter, CellSize, NoData}
use Rattle.grid_reader.specs.declared.found.Found.{Found}
use Rattle.grid_reader.specs.declared.found.Origin.{Origin}
use Rattle.grid_reader.specs.Words.{Word}
use Rattle.grid_reader.specs.Marks.{Mark, mark_of}
use Rattle.readings.specs.Readings.{◌>>=◌}
use Rattle.grid_reader.specs.Header.{Pair, has, put, put_nan, put_mark, put_word, with_found, found_from}
use Rattle.grid_reader.specs.Reading.{nothing}
use Rattle.grid_reader.specs.Stands.{mark_in, meant, IsValue}
use Rattle.readings.proofs.Steps.{bind_ok}

-- what was found for a key in any spelling: the value, and whether it is a corner's
pub record Entry : Type 0 where
  pub corner : Bool
  pub mark : Mark

abbrev pub number_entry : Number → Entry
number_entry n = record { corner = false; mark = Some n }

abbrev pub origin_entry : Origin → Entry
origin_entry o = record { corner = o.corner; mark = Some o.value }

abbrev pub mark_entry : Mark → Entry
mark_entry m = record { corner = false; mark = m }

abbrev pub entry : Option GridKey → Found → Option Entry
entry (Some grid_key.Ncols) f = option_map number_entry f.cols
entry (Some grid_key.Nrows) f = option_map number_entry f.rows
entry (Some grid_key.X) f = option_map origin_entry f.x
entry (Some grid_key.Y) f = option_map origin_entry f.y
entry (Some grid_key.CellSize) f = option_map number_entry f.cell
entry None f = option_map mark_entry f.nodata

abbrev pub is_corner : Key → Bool
is_corner XCorner = true
is_corner YCorner = true
is_corner key = false

abbrev pub entry_of : Key → Mark → Entry
entry_of key m = record { corner = is_corner key; mark = m }

abbrev put_any : Key → Mark → Found → Found
put_any key (Some n) f = put key n f
put_any key None f = record f { nodata = Some None }

some_map : {A B : Type 0} (g : A → B) (o : Option A) → is_some o ≡ is_some (option_map g o)
some_map g None = refl
some_map g (Some x) = refl

has_entry : (key : Key) (f : Found) → has key f ≡ is_some (entry (meant key) f)
has_entry Ncols f = some_map number_entry f.cols
has_entry Nrows f = some_map number_entry f.rows
has_entry XCorner f = some_map origin_entry f.x
has_entry XCenter f = some_map origin_entry f.x
has_entry YCorner f = some_map origin_entry f.y
has_entry YCenter f = some_map origin_entry f.y
has_entry CellSize f = some_map number_entry f.cell
has_entry NoData f = some_map mark_entry f.nodata

none_of : {A : Type 0} (o : Option A) → is_some o ≡ false → o ≡ None
none_of None h = refl
none_of (Some x) h = cc

-- two keys in any spelling are one or aren't
same_or_not : (s t : Option GridKey) → (s ≡ t) ⊎ (s ≢ t)
same_or_not None None = inl refl
same_or_not (Some grid_key.Ncols) (Some grid_key.Ncols) = inl refl
same_or_not (Some grid_key.Nrows) (Some grid_key.Nrows) = inl refl
same_or_not (Some grid_key.X) (Some grid_key.X) = inl refl
same_or_not (Some grid_key.Y) (Some grid_key.Y) = inl refl
same_or_not (Some grid_key.CellSize) (Some grid_key.CellSize) = inl refl
same_or_not s t = inr (λ e. absurd (cc))

put_here : (key : Key) (m : Mark) (f : Found) → IsValue key (Some m) → entry (meant key) (put_any key m f) ≡ Some (entry_of key m)
put_here Ncols (Some n) f v = refl
put_here Nrows (Some n) f v = refl
put_here XCorner (Some n) f v = refl
put_here XCenter (Some n) f v = refl
put_here YCorner (Some n) f v = refl
put_here YCenter (Some n) f v = refl
put_here CellSize (Some n) f v = refl
put_here NoData (Some n) f v = refl
put_here key None f v = subst (λ k. entry (meant k) (put_any k None f) ≡ Some (entry_of k None)) (sym v) refl

number_elsewhere : (key : Key) (n : Number) (f : Found) (s : Option GridKey) → s ≢ meant key → entry s (put key n f) ≡ entry s f
number_elsewhere Ncols n f (Some grid_key.Ncols) ne = absurd (ne refl)
number_elsewhere Nrows n f (Some grid_key.Nrows) ne = absurd (ne refl)
number_elsewhere XCorner n f (Some grid_key.X) ne = absurd (ne refl)
number_elsewhere XCenter n f (Some grid_key.X) ne = absurd (ne refl)
number_elsewhere YCorner n f (Some grid_key.Y) ne = absurd (ne refl)
number_elsewhere YCenter n f (Some grid_key.Y) ne = absurd (ne refl)
number_elsewhere CellSize n f (Some grid_key.CellSize) ne = absurd (ne refl)
number_elsewhere NoData n f None ne = absurd (ne refl)
number_elsewhere NoData n f (Some grid_key.Ncols) ne = refl
number_elsewhere NoData n f (Some grid_key.Nrows) ne = refl
number_elsewhere NoData n f (Some grid_key.X) ne = refl
number_elsewhere NoData n f (Some grid_key.Y) ne = refl
number_elsewhere NoData n f (Some grid_key.CellSize) ne = refl
number_elsewhere key n f s ne = refl

nan_elsewhere : (f : Found) (s : Option GridKey) → s ≢ None → entry s (record f { nodata = Some None }) ≡ entry s f
nan_elsewhere f None ne = absurd (ne refl)
nan_elsewhere f (Some grid_key.Ncols) ne = refl
nan_elsewhere f (Some grid_key.Nrows) ne = refl
nan_elsewhere f (Some grid_key.X) ne = refl
nan_elsewhere f (Some grid_key.Y) ne = refl
nan_elsewhere f (Some grid_key.CellSize) ne = refl

put_elsewhere : (key : Key) (m : Mark) (f : Found) (s : Option GridKey) → IsValue key (Some m) → s ≢ meant key → entry s (put_any key m f) ≡ entry s f
put_elsewhere key (Some n) f s v ne = number_elsewhere key n f s ne
put_elsewhere key None f s v ne = nan_elsewhere f s (λ e. ne (e ∙ sym (ap meant v)))

-- a pair that adds its value to what was found
record Adds (p : Pair) (f g : Found) : Type 0 where
  mark : Mark
  fresh : entry (meant p.key) f ≡ None
  marked : mark_in p.value ≡ Some mark
  value : IsValue p.key (Some mark)
  put : g ≡ put_any p.key mark f

nan_only : (key : Key) (at : ℕ) (f g : Found) → put_nan key at f ≡ Ok g → (key ≡ NoData) × (g ≡ record f { nodata = Some None })
nan_only NoData at f g e = (refl, cc)
nan_only Ncols at f g e = absurd (cc)
nan_only Nrows at f g e = absurd (cc)
nan_only XCorner at f g e = absurd (cc)
nan_only XCenter at f g e = absurd (cc)
nan_only YCorner at f g e = absurd (cc)
nan_only YCenter at f g e = absurd (cc)
nan_only CellSize at f g e = absurd (cc)

adds : (end : ℕ) (p : Pair) (f g : Found) → with_found end p f ≡ Ok g → Adds p f g
adds end p f g e = fresh (has p.key f) (has_entry p.key f) e
  where
    marked : (o : Option Mark) (at : ℕ) → entry (meant p.key) f ≡ None → mark_in p.value ≡ o → put_mark p.key at o f ≡ Ok g → Adds p f g
    marked None at new same h = absurd (cc)
    marked (Some None) at new same h = let only = nan_only p.key at f g h in record { mark = None; fresh = new; marked = same; value = only.0; put = only.1 }
    marked (Some (Some n)) at new same h = record { mark = Some n; fresh = new; marked = same; value = tt; put = cc }

    worded : (o : Option Word) → entry (meant p.key) f ≡ None → p.value ≡ o → put_word end p.key o f ≡ Ok g → Adds p f g
    worded None new same h = absurd (cc)
    worded (Some w) new same h = marked (mark_of w.bytes) w.at new (ap mark_in same) h

    fresh : (a : Bool) → a ≡ is_some (entry (meant p.key) f) → cond a (Err (fault.Repeated p.at)) (put_word end p.key p.value f) ≡ Ok g → Adds p f g
    fresh true same h = absurd (cc)
    fresh false same h = worded p.value (none_of (entry (meant p.key) f) (sym same)) refl h

added : (end : ℕ) (p : Pair) (f : Found) (m : Mark) → entry (meant p.key) f ≡ None → mark_in p.value ≡ Some m → IsValue p.key (Some m) → with_found end p f ≡ Ok (put_any p.key m f)
added end p f m new same v =
    ap (λ a. cond a (Err (fault.Repeated p.at)) (put_word end p.key p.value f)) (has_entry p.key f ∙ ap is_some new) ∙ worded p.value same
  where
    marked : (x : Mark) (at : ℕ) → IsValue p.key (Some x) → put_mark p.key at (Some x) f ≡ Ok (put_any p.key x f)
    marked (Some n) at u = refl
    marked None at u = subst (λ k. put_nan k at f ≡ Ok (put_any k None f)) (sym u) refl

    worded : (o : Option Word) → mark_in o ≡ Some m → put_word end p.key o f ≡ Ok (put_any p.key m f)
    worded None h = absurd (cc)
    worded (Some w) h = ap (λ x. put_mark p.key w.at x f) h ∙ marked m w.at v

-- what pairs keep that give g, where f was found before them
pub record Told (ps : List Pair) (f g : Found) : Type 0 where
  pub values : (k : ℕ) (p : Pair) → slice_get ps k ≡ Some p → IsValue p.key (mark_in p.value)
  pub once : (i k : ℕ) (p q : Pair) → i < k → slice_get ps i ≡ Some p → slice_get ps k ≡ Some q → meant p.key ≢ meant q.key
  pub fresh : (k : ℕ) (p : Pair) → slice_get ps k ≡ Some p → entry (meant p.key) f ≡ None
  pub says : (k : ℕ) (p : Pair) (m : Mark) → slice_get ps k ≡ Some p → mark_in p.value ≡ Some m → entry (meant p.key) g ≡ Some (entry_of p.key m)
  pub keeps : (s : Option GridKey) → ((k : ℕ) (p : Pair) → slice_get ps k ≡ Some p → s ≢ meant p.key) → entry s g ≡ entry s f

-- the pair that says something
pub record Says (ps : List Pair) (s : Option GridKey) (e : Entry) : Type 0 where
  pub k : ℕ
  pub p : Pair
  pub mark : Mark
  pub is_there : slice_get ps k ≡ Some p
  pub key : meant p.key ≡ s
  pub marked : mark_in p.value ≡ Some mark
  pub same : entry_of p.key mark ≡ e

none_told : (f : Found) → Told [] f f
none_told f = record {
  values = λ k p e. absurd (cc);
  once = λ i k p q l e h. absurd (cc);
  fresh = λ k p e. absurd (cc);
  says = λ k p m e h. absurd (cc);
  keeps = λ s h. refl;
}

one_more : (p : Pair) (ps : List Pair) (f g h : Found) → Adds p f g → Told ps g h → Told (p ∷ ps) f h
one_more p ps f g h a t = record { values = values; once = once; fresh = fresh; says = says; keeps = keeps }
  where
    here : entry (meant p.key) g ≡ Some (entry_of p.key a.mark)
    here = ap (entry (meant p.key)) a.put ∙ put_here p.key a.mark f a.value

    elsewhere : (s : Option GridKey) → s ≢ meant p.key → entry s g ≡ entry s f
    elsewhere s ne = ap (entry s) a.put ∙ put_elsewhere p.key a.mark f s a.value ne

    apart : (k : ℕ) (q : Pair) → slice_get ps k ≡ Some q → meant p.key ≢ meant q.key
    apart k q e same = let new = t.fresh k q e in let old = ap (λ s. entry s g) same in absurd (cc (new, old, here))

    values : (k : ℕ) (q : Pair) → slice_get (p ∷ ps) k ≡ Some q → IsValue q.key (mark_in q.value)
    values zero q e = let same : p ≡ q = cc in subst (λ u. IsValue u.key (mark_in u.value)) same (subst (IsValue p.key) (sym a.marked) a.value)
    values (suc k) q e = t.values k q e

    once : (i k : ℕ) (q r : Pair) → i < k → slice_get (p ∷ ps) i ≡ Some q → slice_get (p ∷ ps) k ≡ Some r → meant q.key ≢ meant r.key
    once i zero q r l e d = absurd (omega arith)
    once zero (suc k) q r l e d = let same : p ≡ q = cc in subst (λ u. meant u.key ≢ meant r.key) same (apart k r d)
    once (suc i) (suc k) q r l e d = t.once i k q r (omega arith) e d

    fresh : (k : ℕ) (q : Pair) → slice_get (p ∷ ps) k ≡ Some q → entry (meant q.key) f ≡ None
    fresh zero q e = let same : p ≡ q = cc in subst (λ u. entry (meant u.key) f ≡ None) same a.fresh
    fresh (suc k) q e = sym (elsewhere (meant q.key) (λ d. apart k q e (sym d))) ∙ t.fresh k q e

    says : (k : ℕ) (q : Pair) (m : Mark) → slice_get (p ∷ ps) k ≡ Some q → mark_in q.value ≡ Some m → entry (meant q.key) h ≡ Some (entry_of q.key m)
    says zero q m e d =
        let same : p ≡ q = cc in
        let mark : a.mark ≡ m = cc (a.marked, ap (λ u. mark_in u.value) same, d) in
        subst (λ u. entry (meant u.key) h ≡ Some (entry_of u.key m)) same (t.keeps (meant p.key) (λ k r c. apart k r c) ∙ here ∙ ap (λ x. Some (entry_of p.key x)) mark)
    says (suc k) q m e d = t.says k q m e d

    keeps : (s : Option GridKey) → ((k : ℕ) (q : Pair) → slice_get (p ∷ ps) k ≡ Some q → s ≢ meant q.key) → entry s h ≡ entry s f
    keeps s none = t.keeps s (λ k q e. none (suc k) q e) ∙ elsewhere s (none 0 p refl)

pub told : (end : ℕ) (ps : List Pair) (f g : Found) → found_from end f ps ≡ Ok g → Told ps f g
told end [] f g h = let same : f ≡ g = cc in subst (Told [] f) same (none_told f)
told end (p ∷ ps) f g h =
    let first = bind_ok (with_found end p f) (λ x. found_from end x ps) g h in
    one_more p ps f first.0 g (adds end p f first.0 first.1) (told end ps first.0 g first.2)

find : (ps : List Pair) (s : Option GridKey) → ((k : ℕ) × (p : Pair) × (slice_get ps k ≡ Some p) × (meant p.key ≡ s)) ⊎ ((k : ℕ) (p : Pair) → slice_get ps k ≡ Some p → s ≢ meant p.key)
find [] s = inr (λ k p e. absurd (cc))
find (p ∷ ps) s = either (same_or_not s (meant p.key)) (find ps s)
  where
    other : s ≢ meant p.key → ((k : ℕ) (q : Pair) → slice_get ps k ≡ Some q → s ≢ meant q.key) → (k : ℕ) (q : Pair) → slice_get (p ∷ ps) k ≡ Some q → s ≢ meant q.key
    other ne none zero q e = let same : p ≡ q = cc in subst (λ u. s ≢ meant u.key) same ne
    other ne none (suc k) q e = none k q e

    either : ((s ≡ meant p.key) ⊎ (s ≢ meant p.key)) → (((k : ℕ) × (q : Pair) × (slice_get ps k ≡ Some q) × (meant q.key ≡ s)) ⊎ ((k : ℕ) (q : Pair) → slice_get ps k ≡ Some q → s ≢ meant q.key)) →
        ((k : ℕ) × (q : Pair) × (slice_get (p ∷ ps) k ≡ Some q) × (meant q.key ≡ s)) ⊎ ((k : ℕ) (q : Pair) → slice_get (p ∷ ps) k ≡ Some q → s ≢ meant q.key)
    either (inl e) rest = inl (0, p, refl, sym e)
    either (inr ne) (inl h) = inl (suc h.0, h.1, h.2, h.3)
    either (inr ne) (inr none) = inr (other ne none)

pub value_mark : (key : Key) (o : Option Mark) → IsValue key o → (m : Mark) × (o ≡ Some m)
value_mark key None v = absurd v
value_mark key (Some m) v = (m, refl)

-- what was found that wasn't before, some pair says
pub said : (ps : List Pair) (f g : Found) → Told ps f g → (s : Option GridKey) (e : Entry) → entry s f ≡ None → entry s g ≡ Some e → Says ps s e
said ps f g t s e none some = either (find ps s)
  where
    either : (((k : ℕ) × (p : Pair) × (slice_get ps k ≡ Some p) × (meant p.key ≡ s)) ⊎ ((k : ℕ) (p : Pair) → slice_get ps k ≡ Some p → s ≢ meant p.key)) → Says ps s e
    either (inl h) =
        let m = value_mark h.1.key (mark_in h.1.value) (t.values h.0 h.1 h.2) in
        let says = t.says h.0 h.1 m.0 h.2 m.1 in
        let there : entry s g ≡ Some (entry_of h.1.key m.0) = ap (λ x. entry x g) (sym h.3) ∙ says in
        let same : entry_of h.1.key m.0 ≡ e = cc in
        record { k = h.0; p = h.1; mark = m.0; is_there = h.2; key = h.3; marked = m.1; same = same }
    either (inr h) = let kept = t.keeps s h in absurd (cc)

-- values that stand once each are found
pub tell : (end : ℕ) (ps : List Pair) (f : Found) →
    ((k : ℕ) (p : Pair) → slice_get ps k ≡ Some p → IsValue p.key (mark_in p.value)) →
    ((i k : ℕ) (p q : Pair) → i < k → slice_get ps i ≡ Some p → slice_get ps k ≡ Some q → meant p.key ≢ meant q.key) →
    ((k : ℕ) (p : Pair) → slice_get ps k ≡ Some p → entry (meant p.key) f ≡ None) →
    (g : Found) × (found_from end f ps ≡ Ok g)
tell end [] f values once fresh = (f, refl)
tell end (p ∷ ps) f values once fresh =
    let m = value_mark p.key (mark_in p.value) (values 0 p refl) in
    let value : IsValue p.key (Some m.0) = subst (IsValue p.key) m.1 (values 0 p refl) in
    let rest = tell end ps (put_any p.key m.0 f) (λ k q e. values (suc k) q e) (λ i k q r l e d. once (suc i) (suc k) q r (omega arith) e d)
    (λ k q e. put_elsewhere p.key m.0 f (meant q.key) value (λ d. once 0 (suc k) p q (omega arith) refl e (sym d)) ∙ fresh (suc k) q e) in
    (rest.0, ap (λ r. r >>= (λ x. found_from end x ps)) (added end p f m.0 (fresh 0 p refl) m.1 value) ∙ rest.1)

pub nothing_found : (s : Option GridKey) → entry s nothing ≡ None
nothing_found None = refl
nothing_found (Some grid_key.Ncols) = refl
nothing_found (Some grid_key.Nrows) = refl
nothing_found (Some grid_key.X) = refl
nothing_found (Some grid_key.Y) = refl
nothing_found (Some grid_key.CellSize) = refl
