-- A header by its places in the list of words, and what is found by its pairs.
use Rattle.std.proofs.Common.{◌≡◌, ◌≢◌, ℕ, ◌+◌, ◌*◌, ◌<◌, List, length, Bool, true, false, is_some, Option, Some, None, Result, Ok, refl, sym, ap, ap₂, subst, ◌∙◌, ◌⊎◌, inl, inr, arith}
use Rattle.std.specs.List.{slice_get}
use Rattle.std.specs.Option.{option_map, unwrap_or}
use Rattle.std.specs.Prelude.{codes}
use Rattle.std.proofs.lemmas.Option.{slice_get_within}
use Rattle.exact_num.specs.Number.{Number}
use Rattle.exact_num.specs.Text.{number_of}
use Rattle.grid_reader.specs.declared.fault.GridFault.{GridFault}
use Rattle.grid_reader.specs.declared.key.GridKey.{GridKey}
use Rattle.grid_reader.specs.declared.key.GridKey.TheVariants as grid_key
use Rattle.grid_reader.specs.declared.key.Key.{Key}
use Rattle.grid_reader.specs.declared.key.Key.TheVariants.{Ncols, Nrows, XCorner, XCenter, YCorner, YCenter, CellSize, NoData}
use Rattle.grid_reader.specs.declared.found.Found.{Found}
use Rattle.grid_reader.specs.declared.found.Needs.{Needs}
use Rattle.grid_reader.specs.declared.found.Origin.{Origin}
use Rattle.grid_reader.specs.Words.{Word}
use Rattle.grid_reader.specs.Marks.{Mark}
use Rattle.readings.specs.Readings.{◌>>=◌}
use Rattle.grid_reader.specs.Header.{Pair, pairs, found_from}
use Rattle.grid_reader.specs.Reading.{nothing}
use Rattle.grid_reader.specs.Shape.{needed, needs_of}
use Rattle.grid_reader.specs.Values.{nodata_of}
use Rattle.grid_reader.specs.Stands.{key_at, mark_at, mark_in, meant, IsValue, IsHeader, HasValue, HasOrigin, HasNodata}
use Rattle.readings.proofs.Steps.{bind_ok}
use Rattle.grid_reader.proofs.PairLaws.{there, IsPairAt, pair_at, pairs_end, pair_count}
use Rattle.grid_reader.proofs.FoundLaws.{value_mark, Entry, number_entry, origin_entry, mark_entry, entry, is_corner, entry_of, Told, Says, said, tell, nothing_found}

-- which keys are meant
is_cols : (key : Key) → meant key ≡ Some grid_key.Ncols → key ≡ Ncols
is_cols Ncols e = refl
is_cols key e = absurd (cc)

is_rows : (key : Key) → meant key ≡ Some grid_key.Nrows → key ≡ Nrows
is_rows Nrows e = refl
is_rows key e = absurd (cc)

is_x : (key : Key) → meant key ≡ Some grid_key.X → ((key ≡ XCorner) × (is_corner key ≡ true)) ⊎ ((key ≡ XCenter) × (is_corner key ≡ false))
is_x XCorner e = inl (refl, refl)
is_x XCenter e = inr (refl, refl)
is_x key e = absurd (cc)

is_y : (key : Key) → meant key ≡ Some grid_key.Y → ((key ≡ YCorner) × (is_corner key ≡ true)) ⊎ ((key ≡ YCenter) × (is_corner key ≡ false))
is_y YCorner e = inl (refl, refl)
is_y YCenter e = inr (refl, refl)
is_y key e = absurd (cc)

is_cell : (key : Key) → meant key ≡ Some grid_key.CellSize → key ≡ CellSize
is_cell CellSize e = refl
is_cell key e = absurd (cc)

is_nodata_key : (key : Key) → meant key ≡ None → key ≡ NoData
is_nodata_key NoData e = refl
is_nodata_key key e = absurd (cc)

-- what a grid has to have, as found
pub record AreNeeds (f : Found) (n : Needs) : Type 0 where
  pub cols : f.cols ≡ Some n.cols
  pub rows : f.rows ≡ Some n.rows
  pub x : f.x ≡ Some n.x
  pub y : f.y ≡ Some n.y
  pub cell : f.cell ≡ Some n.cell

needed_is : {A : Type 0} (key : GridKey) (o : Option A) (x : A) → needed key o ≡ Ok x → o ≡ Some x
needed_is key None x h = absurd (cc)
needed_is key (Some y) x h = cc

abbrev with_cell : Number → Number → Origin → Origin → Number → Result Needs GridFault
with_cell cols rows x y cell = Ok (record { cols = cols; rows = rows; x = x; y = y; cell = cell })

abbrev with_y : Found → Number → Number → Origin → Origin → Result Needs GridFault
with_y f cols rows x y = needed grid_key.CellSize f.cell >>= (λ cell. with_cell cols rows x y cell)

abbrev with_x : Found → Number → Number → Origin → Result Needs GridFault
with_x f cols rows x = needed grid_key.Y f.y >>= (λ y. with_y f cols rows x y)

abbrev with_rows : Found → Number → Number → Result Needs GridFault
with_rows f cols rows = needed grid_key.X f.x >>= (λ x. with_x f cols rows x)

abbrev with_cols : Found → Number → Result Needs GridFault
with_cols f cols = needed grid_key.Nrows f.rows >>= (λ rows. with_rows f cols rows)

pub needs_are : (f : Found) (n : Needs) → needs_of f ≡ Ok n → AreNeeds f n
needs_are f n h =
    let a = bind_ok (needed grid_key.Ncols f.cols) (with_cols f) n h in
    let b = bind_ok (needed grid_key.Nrows f.rows) (with_rows f a.0) n a.2 in
    let c = bind_ok (needed grid_key.X f.x) (with_x f a.0 b.0) n b.2 in
    let d = bind_ok (needed grid_key.Y f.y) (with_y f a.0 b.0 c.0) n c.2 in
    let e = bind_ok (needed grid_key.CellSize f.cell) (with_cell a.0 b.0 c.0 d.0) n d.2 in
    let made : Needs = record { cols = a.0; rows = b.0; x = c.0; y = d.0; cell = e.0 } in
    let same : made ≡ n = cc (e.2) in
    subst (AreNeeds f) same (record {
      cols = needed_is grid_key.Ncols f.cols a.0 a.1;
      rows = needed_is grid_key.Nrows f.rows b.0 b.1;
      x = needed_is grid_key.X f.x c.0 c.1;
      y = needed_is grid_key.Y f.y d.0 d.1;
      cell = needed_is grid_key.CellSize f.cell e.0 e.1;
    })

pub needs_back : (f : Found) (n : Needs) → AreNeeds f n → needs_of f ≡ Ok n
needs_back f n h =
    ap (λ o. needed grid_key.Ncols o >>= with_cols f) h.cols
    ∙ ap (λ o. needed grid_key.Nrows o >>= with_rows f n.cols) h.rows
    ∙ ap (λ o. needed grid_key.X o >>= with_x f n.cols n.rows) h.x
    ∙ ap (λ o. needed grid_key.Y o >>= with_y f n.cols n.rows n.x) h.y
    ∙ ap (λ o. needed grid_key.CellSize o >>= with_cell n.cols n.rows n.x n.y) h.cell

-- what is found as an entry
number_found : (o : Option Number) (n : Number) → option_map number_entry o ≡ Some (number_entry n) → o ≡ Some n
number_found None n h = absurd (cc)
number_found (Some x) n h = let same : number_entry x ≡ number_entry n = cc in ap (λ e. e.mark) same

origin_found : (o : Option Origin) (c : Bool) (n : Number) → option_map origin_entry o ≡ Some (let e : Entry = record { corner = c; mark = Some n } in e) → o ≡ Some (let q : Origin = record { corner = c; value = n } in q)
origin_found None c n h = absurd (cc)
origin_found (Some x) c n h =
    let e : Entry = record { corner = c; mark = Some n } in
    let same : origin_entry x ≡ e = cc in
    let corner : x.corner ≡ c = ap (λ y. y.corner) same in
    let mark : Some x.value ≡ Some n = ap (λ y. y.mark) same in
    let value : x.value ≡ n = cc in
    ap₂ (λ (a : Bool) (b : Number). Some (let q : Origin = record { corner = a; value = b } in q)) corner value

mark_found : (o : Option Mark) (m : Mark) → option_map mark_entry o ≡ Some (mark_entry m) → o ≡ Some m
mark_found None m h = absurd (cc)
mark_found (Some x) m h = let same : mark_entry x ≡ mark_entry m = cc in ap (λ y. Some y.mark) same

no_mark : (o : Option Mark) → option_map mark_entry o ≡ None → o ≡ None
no_mark None h = refl
no_mark (Some x) h = absurd (cc)

-- from what was found to the places of words
module _ (ws : List Word) (f : Found) (t : Told (pairs ws) nothing f) where
  abbrev count : ℕ
  count = length (pairs ws)

  pub header_is : IsHeader ws count
  header_is = record {
    keys = λ k l. (let p = there (pairs ws) k l in ap is_some (pair_at ws k p.0 p.1).spelled);
    ends = pairs_end ws;
    values = λ k key l e. (let p = there (pairs ws) k l in value k key p.0 p.1 (pair_at ws k p.0 p.1) e);
    once = λ i k a b l m d e. (let p = there (pairs ws) i (omega arith) in let q = there (pairs ws) k m in apart i k a b p.0 q.0 l p.1 q.1 (pair_at ws i p.0 p.1) (pair_at ws k q.0 q.1) d e);
  }
    where
      value : (k : ℕ) (key : Key) (p : Pair) → slice_get (pairs ws) k ≡ Some p → IsPairAt ws k p → key_at ws (2 * k) ≡ Some key → IsValue key (mark_at ws (2 * k + 1))
      value k key p h at e =
          let spelled = at.spelled in
          let same : p.key ≡ key = cc in
          subst (λ x. IsValue x (mark_at ws (2 * k + 1))) same (subst (λ o. IsValue p.key (mark_in o)) at.valued (t.values k p h))

      apart : (i k : ℕ) (a b : Key) (p q : Pair) → i < k → slice_get (pairs ws) i ≡ Some p → slice_get (pairs ws) k ≡ Some q → IsPairAt ws i p → IsPairAt ws k q → key_at ws (2 * i) ≡ Some a → key_at ws (2 * k) ≡ Some b → meant a ≢ meant b
      apart i k a b p q l h g at bt d e =
          let spelled = at.spelled in
          let spelled' = bt.spelled in
          let one : p.key ≡ a = cc in
          let two : q.key ≡ b = cc in
          λ same. t.once i k p q l h g (ap meant one ∙ same ∙ sym (ap meant two))

  value_at : (s : Option GridKey) (e : Entry) (says : Says (pairs ws) s e) → HasValue ws count says.p.key says.mark
  value_at s e says =
      let at = pair_at ws says.k says.p says.is_there in
      record {
        pair = says.k;
        within = slice_get_within (pairs ws) says.k says.p says.is_there;
        spelled = at.spelled;
        valued = ap mark_in (sym at.valued) ∙ says.marked;
      }

  says_of : (s : Option GridKey) (e : Entry) → entry s f ≡ Some e → Says (pairs ws) s e
  says_of s e h = said (pairs ws) nothing f t s e (nothing_found s) h

  has_number : (s : Option GridKey) (key : Key) (e : Entry) → ((k : Key) → meant k ≡ s → k ≡ key) → entry s f ≡ Some e → HasValue ws count key e.mark
  has_number s key e only h =
      let says = says_of s e h in
      let same = only says.p.key says.key in
      let mark : says.mark ≡ e.mark = ap (λ x. x.mark) says.same in
      subst (λ k. HasValue ws count k e.mark) same (subst (HasValue ws count says.p.key) mark (value_at s e says))

  pub has_cols : (n : Number) → f.cols ≡ Some n → HasValue ws count Ncols (Some n)
  has_cols n h = has_number (Some grid_key.Ncols) Ncols (number_entry n) is_cols (ap (option_map number_entry) h)

  pub has_rows : (n : Number) → f.rows ≡ Some n → HasValue ws count Nrows (Some n)
  has_rows n h = has_number (Some grid_key.Nrows) Nrows (number_entry n) is_rows (ap (option_map number_entry) h)

  pub has_cell : (n : Number) → f.cell ≡ Some n → HasValue ws count CellSize (Some n)
  has_cell n h = has_number (Some grid_key.CellSize) CellSize (number_entry n) is_cell (ap (option_map number_entry) h)

  has_origin : (s : Option GridKey) (corner center : Key) (o : Origin) → ((k : Key) → meant k ≡ s → ((k ≡ corner) × (is_corner k ≡ true)) ⊎ ((k ≡ center) × (is_corner k ≡ false))) → entry s f ≡ Some (origin_entry o) → HasOrigin ws count corner center o
  has_origin s corner center o only h = either (says_of s (origin_entry o) h)
    where
      either : Says (pairs ws) s (origin_entry o) → HasOrigin ws count corner center o
      either says =
          let mark : says.mark ≡ Some o.value = ap (λ x. x.mark) says.same in
          let side : is_corner says.p.key ≡ o.corner = ap (λ x. x.corner) says.same in
          let value = subst (HasValue ws count says.p.key) mark (value_at s (origin_entry o) says) in
          elim (only says.p.key says.key) [
            | inl e ↦ inl (subst (λ k. HasValue ws count k (Some o.value)) e.0 value, sym side ∙ e.1)
            | inr e ↦ inr (subst (λ k. HasValue ws count k (Some o.value)) e.0 value, sym side ∙ e.1)
          ]

  pub has_x : (o : Origin) → f.x ≡ Some o → HasOrigin ws count XCorner XCenter o
  has_x o h = has_origin (Some grid_key.X) XCorner XCenter o is_x (ap (option_map origin_entry) h)

  pub has_y : (o : Origin) → f.y ≡ Some o → HasOrigin ws count YCorner YCenter o
  has_y o h = has_origin (Some grid_key.Y) YCorner YCenter o is_y (ap (option_map origin_entry) h)

  pub has_nodata : HasNodata ws count (nodata_of f)
  has_nodata = either f.nodata refl
    where
      no_key : f.nodata ≡ None → (k : ℕ) → k < count → key_at ws (2 * k) ≢ Some NoData
      no_key h k l e =
          let p = there (pairs ws) k l in
          let at = pair_at ws k p.0 p.1 in
          let spelled = at.spelled in
          let same : p.0.key ≡ NoData = cc in
          let value = t.values k p.0 p.1 in
          let marked = value_mark p.0.key (mark_in p.0.value) value in
          let says = t.says k p.0 marked.0 p.1 marked.1 in
          let none : entry None f ≡ None = ap (option_map mark_entry) h in
          let some : entry None f ≡ Some (entry_of p.0.key marked.0) = ap (λ x. entry (meant x) f) (sym same) ∙ says in
          absurd (cc (none, some))

      either : (o : Option Mark) → f.nodata ≡ o → HasNodata ws count (nodata_of f)
      either (Some m) h =
          let same : m ≡ nodata_of f = sym (ap (λ o. unwrap_or o (number_of (codes "-9999"))) h) in
          inl (subst (HasValue ws count NoData) same (has_number None NoData (mark_entry m) is_nodata_key (ap (option_map mark_entry) h)))
      either None h = inr (no_key h, ap (λ o. unwrap_or o (number_of (codes "-9999"))) h)

-- and back
module _ (ws : List Word) (count : ℕ) (header : IsHeader ws count) where
  pub as_many : length (pairs ws) ≡ count
  as_many = pair_count ws count header.keys header.ends

  inside : (k : ℕ) (p : Pair) → slice_get (pairs ws) k ≡ Some p → k < count
  inside k p e = let many = as_many in let l = slice_get_within (pairs ws) k p e in omega arith

  pub finds : (end : ℕ) → (f : Found) × (found_from end nothing (pairs ws) ≡ Ok f)
  finds end = tell end (pairs ws) nothing values once (λ k p e. nothing_found (meant p.key))
    where
      values : (k : ℕ) (p : Pair) → slice_get (pairs ws) k ≡ Some p → IsValue p.key (mark_in p.value)
      values k p e =
          let at = pair_at ws k p e in
          subst (λ o. IsValue p.key (mark_in o)) (sym at.valued) (header.values k p.key (inside k p e) at.spelled)

      once : (i k : ℕ) (p q : Pair) → i < k → slice_get (pairs ws) i ≡ Some p → slice_get (pairs ws) k ≡ Some q → meant p.key ≢ meant q.key
      once i k p q l d e = header.once i k p.key q.key l (inside k q e) (pair_at ws i p d).spelled (pair_at ws k q e).spelled

  module _ (f : Found) (t : Told (pairs ws) nothing f) where
    value_found : (key : Key) (m : Mark) → HasValue ws count key m → entry (meant key) f ≡ Some (entry_of key m)
    value_found key m v =
        let many = as_many in
        let p = there (pairs ws) v.pair (omega (arith, v.within)) in
        found p.0 p.1 (pair_at ws v.pair p.0 p.1)
      where
        found : (p : Pair) → slice_get (pairs ws) v.pair ≡ Some p → IsPairAt ws v.pair p → entry (meant key) f ≡ Some (entry_of key m)
        found p e at =
            let spelled = at.spelled in
            let given = v.spelled in
            let same : p.key ≡ key = cc in
            let marked : mark_in p.value ≡ Some m = ap mark_in at.valued ∙ v.valued in
            subst (λ k. entry (meant k) f ≡ Some (entry_of k m)) same (t.says v.pair p m e marked)

    pub cols_found : (n : Number) → HasValue ws count Ncols (Some n) → f.cols ≡ Some n
    cols_found n v = number_found f.cols n (value_found Ncols (Some n) v)

    pub rows_found : (n : Number) → HasValue ws count Nrows (Some n) → f.rows ≡ Some n
    rows_found n v = number_found f.rows n (value_found Nrows (Some n) v)

    pub cell_found : (n : Number) → HasValue ws count CellSize (Some n) → f.cell ≡ Some n
    cell_found n v = number_found f.cell n (value_found CellSize (Some n) v)

    pub x_found : (o : Origin) → HasOrigin ws count XCorner XCenter o → f.x ≡ Some o
    x_found o (inl v) = origin_found f.x true o.value (value_found XCorner (Some o.value) v.0) ∙ ap (λ c. Some (let q : Origin = record { corner = c; value = o.value } in q)) (sym v.1)
    x_found o (inr v) = origin_found f.x false o.value (value_found XCenter (Some o.value) v.0) ∙ ap (λ c. Some (let q : Origin = record { corner = c; value = o.value } in q)) (sym v.1)

    pub y_found : (o : Origin) → HasOrigin ws count YCorner YCenter o → f.y ≡ Some o
    y_found o (inl v) = origin_found f.y true o.value (value_found YCorner (Some o.value) v.0) ∙ ap (λ c. Some (let q : Origin = record { corner = c; value = o.value } in q)) (sym v.1)
    y_found o (inr v) = origin_found f.y false o.value (value_found YCenter (Some o.value) v.0) ∙ ap (λ c. Some (let q : Origin = record { corner = c; value = o.value } in q)) (sym v.1)

    pub nodata_found : (m : Mark) → HasNodata ws count m → nodata_of f ≡ m
    nodata_found m (inl v) = ap (λ o. unwrap_or o (number_of (codes "-9999"))) (mark_found f.nodata m (value_found NoData m v))
    nodata_found m (inr h) = ap (λ o. unwrap_or o (number_of (codes "-9999"))) (no_mark f.nodata (t.keeps None none)) ∙ sym h.1
      where
        none : (k : ℕ) (p : Pair) → slice_get (pairs ws) k ≡ Some p → None ≢ meant p.key
        none k p e same = h.0 k (inside k p e) ((pair_at ws k p e).spelled ∙ ap Some (is_nodata_key p.key (sym same)))
