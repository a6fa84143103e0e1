-- What an ordered map from texts to stores holds, and the contents of files, after a change at one name.
use Rattle.std.proofs.Common.{◌≡◌, ℕ, Bool, true, false, cond, List, [], ◌∷◌, ◌++◌, map, Option, Some, None, IsSome, is_some, String, BTreeMap, Global, string_bytes, option_map, unwrap_or, Result, Ok, Err, OnOk, OnErr, refl, sym, ap, ◌∙◌, Less, Equal, Greater, is_eq, append-nil, append_assoc}
use Rattle.std.proofs.lemmas.Bool.{false≢true}
use Rattle.std.proofs.lemmas.Map.Text.{btree_map_updates_text, is_eq-slice_cmp, text_cmp}
use Rattle.std.specs.Ordering.{nat_cmp, eq_by_cmp}
use Rattle.std.specs.Cmp.{eq_by_cmp_equiv, tied_itself}
use Rattle.std.specs.Cmp.Lexicographic.{slice_cmp, nat_list_cmp_total}
use Rattle.std.specs.Str.{bytes_eq}
use Rattle.std.specs.String.{string_cmp}
use Rattle.std.specs.Map.{lookup}
use Rattle.std.specs.BTreeMap.{is_at, get_by_text, UpdatesBy}
use Rattle.std.specs.FinMap.{FinMap, find, get, insert, entries, get-entries, get-from_entries, get-insert, same_map, get_tied, slice_cmp-IsAntisymmetric, nat_cmp-IsAntisymmetric}
use Rattle.chart_dev.specs.Contents.{Contents, bytes_at, appended}
use Rattle.chart_dev.specs.Memory.{Files, Stored, contents, filled, grown, stored_at}
use Rattle.chart_dev.specs.Files.{files_of}

-- values under names
abbrev pub Names : Type 0 → Type 0
Names X = FinMap (slice_cmp nat_cmp) X

-- two maps that answer alike are one
alike : {X : Type 0} (m n : Names X) → ((q : List ℕ) → get m q ≡ get n q) → m ≡ n
alike m n = same_map nat_list_cmp_total (slice_cmp-IsAntisymmetric nat_cmp-IsAntisymmetric) m n

-- the test by which a look-up knows a name
abbrev pub tied : List ℕ → List ℕ → Bool
tied q name = eq_by_cmp (slice_cmp nat_cmp) q name

-- what is stored under a name
find_entry : (es : List (String Global × Stored)) (q : List ℕ) → find (slice_cmp nat_cmp) q (map (λ e. (string_bytes e.0, e.1)) es) ≡ lookup (is_at (text_cmp q)) es
find_entry [] q = refl
find_entry (e ∷ es) q = ap (cond (is_at (text_cmp q) e.0) (Some e.1)) (find_entry es q)

pub get-files_of : (m : BTreeMap (String Global) Stored) (q : List ℕ) → get (files_of m.entries) q ≡ get_by_text m q
get-files_of m q = get-from_entries nat_list_cmp_total _ q ∙ find_entry m.entries q

names_tie : (q name : List ℕ) → bytes_eq name q ≡ tied q name
names_tie q name = sym (is_eq-slice_cmp name q) ∙ (eq_by_cmp_equiv nat_list_cmp_total).symm name q

-- a map whose value at a name is another
pub files_of-updates : (name : List ℕ) (m n : BTreeMap (String Global) Stored) (v : Stored) → UpdatesBy string_cmp (λ k. slice_cmp nat_cmp name (string_bytes k)) m n (Some v)
    → files_of n.entries ≡ insert (files_of m.entries) name v
files_of-updates name m n v updates = alike _ _ (λ q.
    get-files_of n q ∙ btree_map_updates_text name m n (Some v) updates q
    ∙ ap (λ b. cond b (Some v) (get_by_text m q)) (names_tie q name)
    ∙ sym (get-insert nat_list_cmp_total (files_of m.entries) name v q ∙ ap (cond (tied q name) (Some v)) (get-files_of m q)))

-- a map whose value at a name is the one that it had
pub insert_same : {X : Type 0} (m : Names X) (name : List ℕ) (v : X) → get m name ≡ Some v → insert m name v ≡ m
insert_same m name v there = alike _ _ (λ q.
    get-insert nat_list_cmp_total m name v q
    ∙ elim (slice_cmp nat_cmp q name) as (λ r. slice_cmp nat_cmp q name ≡ r → cond (is_eq r) (Some v) (get m q) ≡ get m q) [
      | Less ↦ λ _. refl
      | Equal ↦ λ t. sym there ∙ get_tied nat_list_cmp_total m q name t
      | Greater ↦ λ _. refl
    ] refl)

overwritten : {X : Type 0} (t : Bool) (a b : X) (o : Option X) → cond t (Some b) (cond t (Some a) o) ≡ cond t (Some b) o
overwritten true a b o = refl
overwritten false a b o = refl

-- two values put under one name, one after the other
pub insert_again : {X : Type 0} (m : Names X) (name : List ℕ) (a b : X) → insert (insert m name a) name b ≡ insert m name b
insert_again m name a b = alike _ _ (λ q.
    get-insert nat_list_cmp_total (insert m name a) name b q ∙ ap (cond (tied q name) (Some b)) (get-insert nat_list_cmp_total m name a q)
    ∙ overwritten (tied q name) a b (get m q) ∙ sym (get-insert nat_list_cmp_total m name b q))

-- what is under the name that was written
pub get-insert_same : {X : Type 0} (m : Names X) (name : List ℕ) (a : X) → get (insert m name a) name ≡ Some a
get-insert_same m name a = get-insert nat_list_cmp_total m name a name ∙ ap (λ t. cond t (Some a) (get m name)) (ap is_eq (tied_itself nat_list_cmp_total name))

pub is-there : {X : Type 0} (m : Names X) (name : List ℕ) (a : X) → get m name ≡ Some a → IsSome (get m name)
is-there m name a h = ap is_some h

-- the bytes of an option
abbrev pub bytes_in : Option Stored → Option (List ℕ)
bytes_in o = option_map (λ s. s.bytes) o

seen : (b : Bool) (v : Stored) (found : Option (List ℕ)) (rest : Option Stored) → found ≡ bytes_in rest → cond b (Some v.bytes) found ≡ bytes_in (cond b (Some v) rest)
seen true v found rest h = refl
seen false v found rest h = h

find-map : (es : List (List ℕ × Stored)) (q : List ℕ) → find (slice_cmp nat_cmp) q (map (λ e. (e.0, e.1.bytes)) es) ≡ bytes_in (find (slice_cmp nat_cmp) q es)
find-map [] q = refl
find-map (e ∷ es) q = seen (tied q e.0) e.1 _ _ (find-map es q)

-- the contents under a name are the bytes that are stored there
pub get-contents : (files : Files) (q : List ℕ) → get (contents files) q ≡ bytes_in (get files q)
get-contents files q = get-from_entries nat_list_cmp_total _ q ∙ find-map (entries files) q ∙ ap bytes_in (sym (get-entries files q))

pub contents-insert : (files : Files) (name : List ℕ) (stored : Stored) → contents (insert files name stored) ≡ insert (contents files) name stored.bytes
contents-insert files name stored = alike _ _ (λ q.
    get-contents (insert files name stored) q ∙ ap bytes_in (get-insert nat_list_cmp_total files name stored q)
    ∙ sym (seen (tied q name) stored (get (contents files) q) (get files q) (get-contents files q))
    ∙ sym (get-insert nat_list_cmp_total (contents files) name stored.bytes q))

bytes_or : (o : Option Stored) → unwrap_or (bytes_in o) [] ≡ (unwrap_or o (filled [])).bytes
bytes_or None = refl
bytes_or (Some s) = refl

pub bytes_at-contents : (files : Files) (name : List ℕ) → bytes_at (contents files) name ≡ (stored_at files name).bytes
bytes_at-contents files name = ap (λ o. unwrap_or o []) (get-contents files name) ∙ bytes_or (get files name)

-- the contents with a file that has grown
pub contents-grown : (files : Files) (name piece : List ℕ) → contents (insert files name (grown piece (stored_at files name))) ≡ appended name piece (contents files)
contents-grown files name piece = contents-insert files name _ ∙ ap (λ bytes. insert (contents files) name (bytes ++ piece)) (sym (bytes_at-contents files name))

there_in : (o : Option Stored) → IsSome (bytes_in o) → IsSome o
there_in None h = h
there_in (Some s) h = h

-- a name of the contents is a name of the files
pub is-there-files : (files : Files) (name : List ℕ) → IsSome (get (contents files) name) → IsSome (get files name)
is-there-files files name h = there_in (get files name) (rw (get-contents files name) at h)

pub is-there-insert : (files : Files) (name : List ℕ) (stored : Stored) → IsSome (get (contents (insert files name stored)) name)
is-there-insert files name stored = rw (contents-insert files name stored) (is-there (insert (contents files) name stored.bytes) name stored.bytes (get-insert_same (contents files) name stored.bytes))

-- what is stored under a name, as a look-up finds it
pub stored-found : (m : BTreeMap (String Global) Stored) (name : List ℕ) (v : Stored) → Some v ≡ get_by_text m name → stored_at (files_of m.entries) name ≡ v
stored-found m name v h = ap (λ o. unwrap_or o (filled [])) (get-files_of m name ∙ sym h)

pub stored-absent : (m : BTreeMap (String Global) Stored) (name : List ℕ) → None ≡ get_by_text m name → get (files_of m.entries) name ≡ None
stored-absent m name h = get-files_of m name ∙ sym h

pub contents-found : (m : BTreeMap (String Global) Stored) (name : List ℕ) (v : Stored) → Some v ≡ get_by_text m name → get (contents (files_of m.entries)) name ≡ Some v.bytes
contents-found m name v h = get-contents (files_of m.entries) name ∙ ap bytes_in (get-files_of m name ∙ sym h)

pub contents-absent : (files : Files) (name : List ℕ) → get files name ≡ None → get (contents files) name ≡ None
contents-absent files name h = get-contents files name ∙ ap bytes_in h

some_of : {X : Type 0} (o : Option X) (d : X) → IsSome o → o ≡ Some (unwrap_or o d)
some_of None d h = absurd (false≢true h)
some_of (Some x) d h = refl

-- nothing more at the end of a name that is there
pub appended_nothing : (files : Contents) (name : List ℕ) → IsSome (get files name) → appended name [] files ≡ files
appended_nothing files name there = ap (insert files name) (append-nil (bytes_at files name)) ∙ insert_same files name (bytes_at files name) (some_of (get files name) [] there)

-- the bytes of a name that is there
pub bytes-there : (files : Contents) (name bytes : List ℕ) → get files name ≡ Some bytes → bytes_at files name ≡ bytes
bytes-there files name bytes h = ap (λ o. unwrap_or o []) h

-- pieces that are added one after the other
pub appended-appended : (name a b : List ℕ) (files : Contents) → appended name b (appended name a files) ≡ appended name (a ++ b) files
appended-appended name a b files =
    ap (λ bytes. insert (appended name a files) name (bytes ++ b)) (bytes-there (appended name a files) name (bytes_at files name ++ a) (get-insert_same files name (bytes_at files name ++ a)))
    ∙ insert_again files name (bytes_at files name ++ a) ((bytes_at files name ++ a) ++ b)
    ∙ ap (insert files name) (append_assoc (bytes_at files name) a b)

pub is-there-appended : (files : Contents) (name a : List ℕ) → IsSome (get (appended name a files) name)
is-there-appended files name a = is-there (appended name a files) name (bytes_at files name ++ a) (get-insert_same files name (bytes_at files name ++ a))

-- bytes that are added to a name that was made empty
pub appended-started : (name bytes : List ℕ) (files : Contents) → appended name bytes (insert files name []) ≡ insert files name bytes
appended-started name bytes files =
    ap (λ front. insert (insert files name []) name (front ++ bytes)) (bytes-there (insert files name []) name [] (get-insert_same files name []))
    ∙ insert_again files name [] bytes

pub is-there-started : (files : Contents) (name : List ℕ) → IsSome (get (insert files name []) name)
is-there-started files name = is-there (insert files name []) name [] (get-insert_same files name [])

-- what is stored under a name that isn't there
pub stored_none : (files : Files) (name : List ℕ) → get files name ≡ None → stored_at files name ≡ filled []
stored_none files name h = ap (λ o. unwrap_or o (filled [])) h

-- facts on one outcome
pub on_err : {T E : Type 0} (result : Result T E) {P : Type 0} → P → OnErr result P
on_err (Ok x) p = tt
on_err (Err e) p = p

pub put_as : {T E : Type 0} (result : Result T E) (new old : Files) (name : List ℕ) (stored : Stored) {other : Stored} → stored ≡ other → OnOk result (new ≡ insert old name stored) → OnOk result (new ≡ insert old name other)
put_as (Ok x) new old name stored e h = h ∙ ap (insert old name) e
put_as (Err e) new old name stored f h = tt

pub put_there : {T E : Type 0} (result : Result T E) (new old : Files) (name : List ℕ) (stored : Stored) → OnOk result (new ≡ insert old name stored) → OnOk result (IsSome (get (contents new) name))
put_there (Ok x) new old name stored h = rw h (is-there-insert old name stored)
put_there (Err e) new old name stored h = tt

-- a name that is there is there still, whatever the outcome
pub still_there : {T E : Type 0} (result : Result T E) (new old : Files) (name : List ℕ) (stored : Stored) → OnOk result (new ≡ insert old name stored) → OnErr result (new ≡ old)
    → IsSome (get (contents old) name) → IsSome (get (contents new) name)
still_there (Ok x) new old name stored h k there = rw h (is-there-insert old name stored)
still_there (Err e) new old name stored h k there = rw k there
