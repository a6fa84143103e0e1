-- Texts that have no `<` and `&` but those of the tags and of the sign for degrees, and how many tags of a kind they have.
use Rattle.std.proofs.Common.{◌≡◌, ◌≢◌, ℕ, zero, suc, ◌+◌, ◌%◌, ◌/◌, ◌<◌, ◌==◌, Bool, true, false, not, ◌&&◌, ◌||◌, cond, eqb, ◌⊎◌, inl, inr, List, [], ◌∷◌, ◌++◌, length, refl, sym, ap, ap₂, ◌∙◌, arith}
use Rattle.std.proofs.lemmas.Bool.Decides.{eqb_tells, nat_tests}
use Rattle.std.specs.Prelude.{codes, nat_lt}
use Rattle.std.specs.Fmt.{decimal, digit_glyph, digits, digits_onto}
use Rattle.std.specs.List.{flat_map, list_all, list_any}
use Rattle.chart_picture.specs.Laws.{begins_with, has_own_marks, HasTags, is_mark, is_plain, tags, times_in}

if_both : (a b : Bool) → a ≡ true → b ≡ true → (a && b) ≡ true
if_both a b h i = ap₂ (λ x y. x && y) h i

first_of_both : (a b : Bool) → (a && b) ≡ true → a ≡ true
first_of_both true b h = refl
first_of_both false b h = h

second_of_both : (a b : Bool) → (a && b) ≡ true → b ≡ true
second_of_both true b h = h
second_of_both false b h = cc

or_more : (a b c : Bool) → (b ≡ true → c ≡ true) → (a || b) ≡ true → (a || c) ≡ true
or_more true b c f h = refl
or_more false b c f h = f h

or_both : (a b c d : Bool) → (a ≡ true → c ≡ true) → (b ≡ true → d ≡ true) → (a || b) ≡ true → (c || d) ≡ true
or_both true b c d f g h = ap (λ x. x || d) (f refl)
or_both false b true d f g h = refl
or_both false b false d f g h = g h

-- ---- own marks of one text after another

begins_on : (w xs ys : List ℕ) → begins_with w xs ≡ true → begins_with w (xs ++ ys) ≡ true
begins_on [] xs ys h = refl
begins_on (w ∷ ws) [] ys h = cc
begins_on (w ∷ ws) (x ∷ xs) ys h = if_both (w == x) (begins_with ws (xs ++ ys)) (first_of_both (w == x) (begins_with ws xs) h) (begins_on ws xs ys (second_of_both (w == x) (begins_with ws xs) h))

some_begins_on : (ts : List (List ℕ)) (xs ys : List ℕ) → list_any (λ t. begins_with t xs) ts ≡ true → list_any (λ t. begins_with t (xs ++ ys)) ts ≡ true
some_begins_on [] xs ys h = h
some_begins_on (t ∷ ts) xs ys h = or_both (begins_with t xs) (list_any (λ u. begins_with u xs) ts) (begins_with t (xs ++ ys)) (list_any (λ u. begins_with u (xs ++ ys)) ts) (begins_on t xs ys) (some_begins_on ts xs ys) h

own_join : (xs ys : List ℕ) → has_own_marks xs ≡ true → has_own_marks ys ≡ true → has_own_marks (xs ++ ys) ≡ true
own_join [] ys h i = i
own_join (x ∷ xs) ys h i =
    if_both (not (is_mark x) || list_any (λ t. begins_with t (x ∷ (xs ++ ys))) tags) (has_own_marks (xs ++ ys))
    (or_more (not (is_mark x)) (list_any (λ t. begins_with t (x ∷ xs)) tags) (list_any (λ t. begins_with t (x ∷ (xs ++ ys))) tags) (some_begins_on tags (x ∷ xs) ys)
    (first_of_both (not (is_mark x) || list_any (λ t. begins_with t (x ∷ xs)) tags) (has_own_marks xs) h))
    (own_join xs ys (second_of_both (not (is_mark x) || list_any (λ t. begins_with t (x ∷ xs)) tags) (has_own_marks xs) h) i)

-- ---- tags are counted in one text after another

-- two texts differ before either ends
abbrev differ : List ℕ → List ℕ → Bool
differ [] text = false
differ (w ∷ ws) [] = false
differ (w ∷ ws) (c ∷ cs) = not (w == c) || differ ws cs

both_equal : (a b c : ℕ) → (a == b) ≡ true → (b == c) ≡ true → (a == c) ≡ true
both_equal a b c h i = grind (arith, nat_tests)

one_differs : (a b c : ℕ) → (a == b) ≡ false → (a == c) ≡ true → (b == c) ≡ false
one_differs a b c h i = grind (arith, nat_tests)

begins_through : (w v text : List ℕ) → begins_with w v ≡ true → begins_with v text ≡ true → begins_with w text ≡ true
begins_through [] v text h i = refl
begins_through (a ∷ w) [] text h i = cc
begins_through (a ∷ w) (b ∷ v) [] h i = cc
begins_through (a ∷ w) (b ∷ v) (c ∷ text) h i =
    if_both (a == c) (begins_with w text) (both_equal a b c (first_of_both (a == b) (begins_with w v) h) (first_of_both (b == c) (begins_with v text) i))
    (begins_through w v text (second_of_both (a == b) (begins_with w v) h) (second_of_both (b == c) (begins_with v text) i))

and_false : (b : Bool) → (b && false) ≡ false
and_false true = refl
and_false false = refl

never_begins : (v w text : List ℕ) → differ v w ≡ true → begins_with v text ≡ true → begins_with w text ≡ false
never_begins [] w text h i = cc
never_begins (a ∷ v) [] text h i = cc
never_begins (a ∷ v) (b ∷ w) [] h i = cc
never_begins (a ∷ v) (b ∷ w) (c ∷ text) h i =
    go (a == b) refl h (λ k. never_begins v w text k (second_of_both (a == c) (begins_with v text) i))
  where
    go : (e : Bool) → (a == b) ≡ e → (not e || differ v w) ≡ true → (differ v w ≡ true → begins_with w text ≡ false) → ((b == c) && begins_with w text) ≡ false
    go true e k later = ap (λ x. (b == c) && x) (later k) ∙ and_false (b == c)
    go false e k later = ap (λ x. x && begins_with w text) (one_differs a b c e (first_of_both (a == c) (begins_with v text) i))

-- of each tag it can be told from a text that begins with one whether it is that one
abbrev is_told : List ℕ → List ℕ → Bool
is_told tag t = begins_with tag t || differ t tag

told : (tag t text more : List ℕ) → is_told tag t ≡ true → begins_with t text ≡ true → begins_with tag text ≡ begins_with tag (text ++ more)
told tag t text more h i = go (begins_with tag t) refl h
  where
    go : (b : Bool) → begins_with tag t ≡ b → (b || differ t tag) ≡ true → begins_with tag text ≡ begins_with tag (text ++ more)
    go true e k = let here : begins_with tag text ≡ true = begins_through tag t text e i in here ∙ sym (begins_on tag text more here)
    go false e k = never_begins t tag text k i ∙ sym (never_begins t tag (text ++ more) k (begins_on t text more i))

some_told : (tag : List ℕ) (ts : List (List ℕ)) (text more : List ℕ) → list_all (is_told tag) ts ≡ true → list_any (λ t. begins_with t text) ts ≡ true → begins_with tag text ≡ begins_with tag (text ++ more)
some_told tag [] text more h i = cc
some_told tag (t ∷ ts) text more h i =
    go (begins_with t text) refl i (λ k. some_told tag ts text more (second_of_both (is_told tag t) (list_all (is_told tag) ts) h) k)
  where
    go : (b : Bool) → begins_with t text ≡ b → (b || list_any (λ u. begins_with u text) ts) ≡ true → (list_any (λ u. begins_with u text) ts ≡ true → begins_with tag text ≡ begins_with tag (text ++ more)) → begins_with tag text ≡ begins_with tag (text ++ more)
    go true e k later = told tag t text more (first_of_both (is_told tag t) (list_all (is_told tag) ts) h) e
    go false e k later = later k

no_less_than : (c : ℕ) → is_mark c ≡ false → (60 == c) ≡ false
no_less_than c h = go (c == 60) refl h
  where
    go : (b : Bool) → (c == 60) ≡ b → (b || (c == 38)) ≡ false → (60 == c) ≡ false
    go true e k = cc
    go false e k = grind (arith, nat_tests)

-- where a text's marks are its own, a tag is seen within the text, whatever follows
seen_within : (ws : List ℕ) (c : ℕ) (cs more : List ℕ) → list_all (is_told (60 ∷ ws)) tags ≡ true → (not (is_mark c) || list_any (λ t. begins_with t (c ∷ cs)) tags) ≡ true
    → begins_with (60 ∷ ws) (c ∷ cs) ≡ begins_with (60 ∷ ws) (c ∷ (cs ++ more))
seen_within ws c cs more h i = go (is_mark c) refl i
  where
    go : (b : Bool) → is_mark c ≡ b → (not b || list_any (λ t. begins_with t (c ∷ cs)) tags) ≡ true → begins_with (60 ∷ ws) (c ∷ cs) ≡ begins_with (60 ∷ ws) (c ∷ (cs ++ more))
    go true e k = some_told (60 ∷ ws) tags (c ∷ cs) more h k
    go false e k = ap (λ x. x && begins_with ws cs) (no_less_than c e) ∙ sym (ap (λ x. x && begins_with ws (cs ++ more)) (no_less_than c e))

sums : (a b t u v : ℕ) → a ≡ b → t ≡ u + v → b + t ≡ (a + u) + v
sums a b t u v h i = omega arith

times_join : (ws xs ys : List ℕ) → list_all (is_told (60 ∷ ws)) tags ≡ true → has_own_marks xs ≡ true → times_in (60 ∷ ws) (xs ++ ys) ≡ times_in (60 ∷ ws) xs + times_in (60 ∷ ws) ys
times_join ws [] ys h own = omega arith
times_join ws (c ∷ cs) ys h own =
    let here : (not (is_mark c) || list_any (λ t. begins_with t (c ∷ cs)) tags) ≡ true = first_of_both (not (is_mark c) || list_any (λ t. begins_with t (c ∷ cs)) tags) (has_own_marks cs) own in
    sums (cond (begins_with (60 ∷ ws) (c ∷ cs)) 1 0) (cond (begins_with (60 ∷ ws) (c ∷ (cs ++ ys))) 1 0) (times_in (60 ∷ ws) (cs ++ ys)) (times_in (60 ∷ ws) cs) (times_in (60 ∷ ws) ys)
    (ap (λ b. cond b 1 0) (seen_within ws c cs ys h here))
    (times_join ws cs ys h (second_of_both (not (is_mark c) || list_any (λ t. begins_with t (c ∷ cs)) tags) (has_own_marks cs) own))

-- ---- both together

pub record HasOwnTags (text : List ℕ) (path title number rectangle : ℕ) : Type 0 where
  pub own : has_own_marks text ≡ true
  pub counts : HasTags text path title number rectangle

both_counts : (a b p q n : ℕ) → n ≡ a + b → a ≡ p → b ≡ q → n ≡ p + q
both_counts a b p q n h i j = omega arith

pub join : {xs ys : List ℕ} {p i t r q j u s : ℕ} → HasOwnTags xs p i t r → HasOwnTags ys q j u s → HasOwnTags (xs ++ ys) (p + q) (i + j) (t + u) (r + s)
join {xs = xs} {ys = ys} {p = p} {i = i} {t = t} {r = r} {q = q} {j = j} {u = u} {s = s} h k = record {
  own = own_join xs ys h.own k.own;
  counts = record {
    paths = both_counts _ _ p q _ (times_join (codes "path ") xs ys refl h.own) h.counts.paths k.counts.paths;
    titles = both_counts _ _ i j _ (times_join (codes "title>") xs ys refl h.own) h.counts.titles k.counts.titles;
    numbers = both_counts _ _ t u _ (times_join (codes "text ") xs ys refl h.own) h.counts.numbers k.counts.numbers;
    rectangles = both_counts _ _ r s _ (times_join (codes "rect ") xs ys refl h.own) h.counts.rectangles k.counts.rectangles;
  };
}

abbrev are_tags : List ℕ → ℕ → ℕ → ℕ → ℕ → Bool
are_tags text p i t r =
    has_own_marks text && ((times_in (codes "<path ") text == p) && ((times_in (codes "<title>") text == i) && ((times_in (codes "<text ") text == t) && (times_in (codes "<rect ") text == r))))

same_number : (a b : ℕ) → (a == b) ≡ true → a ≡ b
same_number a b h = grind (arith, nat_tests)

-- a text that is written out
pub word : (text : List ℕ) (p i t r : ℕ) → are_tags text p i t r ≡ true → HasOwnTags text p i t r
word text p i t r h =
    let counts = second_of_both (has_own_marks text) _ h in
    let later = second_of_both (times_in (codes "<path ") text == p) _ counts in
    let last = second_of_both (times_in (codes "<title>") text == i) _ later in
    record {
      own = first_of_both (has_own_marks text) _ h;
      counts = record {
        paths = same_number _ p (first_of_both (times_in (codes "<path ") text == p) _ counts);
        titles = same_number _ i (first_of_both (times_in (codes "<title>") text == i) _ later);
        numbers = same_number _ t (first_of_both (times_in (codes "<text ") text == t) _ last);
        rectangles = same_number _ r (second_of_both (times_in (codes "<text ") text == t) _ last);
      };
    }

-- one of two texts
pub pick : {xs ys : List ℕ} {p i t r : ℕ} (b : Bool) → HasOwnTags xs p i t r → HasOwnTags ys p i t r → HasOwnTags (cond b xs ys) p i t r
pick true h k = h
pick false h k = k

pub recount : {text : List ℕ} {p i t r : ℕ} (q j u : ℕ) → p ≡ q → i ≡ j → t ≡ u → HasOwnTags text p i t r → HasOwnTags text q j u r
recount q j u e f g h =
    record { own = h.own; counts = record { paths = h.counts.paths ∙ e; titles = h.counts.titles ∙ f; numbers = h.counts.numbers ∙ g; rectangles = h.counts.rectangles } }

-- the texts of a list's elements
pub each_path : {X : Type 0} (text : X → List ℕ) (xs : List X) → ((x : X) → HasOwnTags (text x) 1 1 0 0) → HasOwnTags (flat_map text xs) (length xs) (length xs) 0 0
each_path text [] h = word [] 0 0 0 0 refl
each_path text (x ∷ xs) h = recount (length (x ∷ xs)) (length (x ∷ xs)) 0 (omega arith) (omega arith) refl (join (h x) (each_path text xs h))

pub each_number : {X : Type 0} (text : X → List ℕ) (xs : List X) → ((x : X) → HasOwnTags (text x) 0 0 1 0) → HasOwnTags (flat_map text xs) 0 0 (length xs) 0
each_number text [] h = word [] 0 0 0 0 refl
each_number text (x ∷ xs) h = recount 0 0 (length (x ∷ xs)) refl refl (omega arith) (join (h x) (each_number text xs h))

-- ---- texts without marks

abbrev are_unmarked : List ℕ → Bool
are_unmarked text = list_all (λ c. not (is_mark c)) text

not_true : (b : Bool) → not b ≡ true → b ≡ false
not_true true h = cc
not_true false h = refl

unmarked_own : (text : List ℕ) → are_unmarked text ≡ true → has_own_marks text ≡ true
unmarked_own [] h = refl
unmarked_own (c ∷ cs) h =
    ap (λ b. (not b || list_any (λ t. begins_with t (c ∷ cs)) tags) && has_own_marks cs) (not_true (is_mark c) (first_of_both (not (is_mark c)) (are_unmarked cs) h))
    ∙ unmarked_own cs (second_of_both (not (is_mark c)) (are_unmarked cs) h)

unmarked_none : (ws text : List ℕ) → are_unmarked text ≡ true → times_in (60 ∷ ws) text ≡ 0
unmarked_none ws [] h = refl
unmarked_none ws (c ∷ cs) h =
    ap₂ (λ b n. cond (b && begins_with ws cs) 1 0 + n) (no_less_than c (not_true (is_mark c) (first_of_both (not (is_mark c)) (are_unmarked cs) h)))
    (unmarked_none ws cs (second_of_both (not (is_mark c)) (are_unmarked cs) h))

pub unmarked_tags : (text : List ℕ) → are_unmarked text ≡ true → HasOwnTags text 0 0 0 0
unmarked_tags text h = record {
  own = unmarked_own text h;
  counts = record {
    paths = unmarked_none (codes "path ") text h;
    titles = unmarked_none (codes "title>") text h;
    numbers = unmarked_none (codes "text ") text h;
    rectangles = unmarked_none (codes "rect ") text h;
  };
}

differs : (a b : ℕ) → (a ≡ b → ⊥) → eqb a b ≡ false
differs a b h = go (eqb_tells a b)
  where
    go : ((eqb a b ≡ true) × (a ≡ b)) ⊎ ((eqb a b ≡ false) × (a ≢ b)) → eqb a b ≡ false
    go (inl t) = absurd (h t.1)
    go (inr t) = t.0

unmarked : (c : ℕ) → (c ≡ 60 → ⊥) → (c ≡ 38 → ⊥) → is_mark c ≡ false
unmarked c h i = ap₂ (λ a b. a || b) (differs c 60 h) (differs c 38 i)

digit_unmarked : (b : Bool) (d : ℕ) → d < 10 → is_mark (cond b (48 + d) (87 + d)) ≡ false
digit_unmarked true d h = unmarked (48 + d) (λ e. omega arith) (λ e. omega arith)
digit_unmarked false d h = unmarked (87 + d) (λ e. omega arith) (λ e. omega arith)

one_of_both : (b : Bool) (xs ys : List ℕ) → are_unmarked xs ≡ true → are_unmarked ys ≡ true → are_unmarked (cond b xs ys) ≡ true
one_of_both true xs ys h i = h
one_of_both false xs ys h i = i

digits_unmarked : (k n : ℕ) (acc : List ℕ) → are_unmarked acc ≡ true → are_unmarked (digits_onto k 10 false n acc) ≡ true
digits_unmarked zero n acc h = h
digits_unmarked (suc k) n acc h =
    let here : are_unmarked (digit_glyph false (n % 10) ∷ acc) ≡ true = if_both (not (is_mark (digit_glyph false (n % 10)))) (are_unmarked acc) (ap not (digit_unmarked (nat_lt (n % 10) 10) (n % 10) (omega arith))) h in
    one_of_both (eqb (n / 10) 0) (digit_glyph false (n % 10) ∷ acc) (digits_onto k 10 false (n / 10) (digit_glyph false (n % 10) ∷ acc)) here (digits_unmarked k (n / 10) (digit_glyph false (n % 10) ∷ acc) here)

decimal_unmarked : (n : ℕ) → are_unmarked (decimal n) ≡ true
unfolding digits
decimal_unmarked n = digits_unmarked 64 n [] refl

pub number : (n : ℕ) → HasOwnTags (decimal n) 0 0 0 0
number n = unmarked_tags (decimal n) (decimal_unmarked n)

plain_unmarked : (c : ℕ) → is_plain c ≡ true → is_mark c ≡ false
plain_unmarked c h = unmarked c (λ e. cc (ap is_plain e)) (λ e. cc (ap is_plain e))

plains_unmarked : (xs : List ℕ) → list_all is_plain xs ≡ true → are_unmarked xs ≡ true
plains_unmarked [] h = refl
plains_unmarked (x ∷ xs) h = if_both (not (is_mark x)) (are_unmarked xs) (ap not (plain_unmarked x (first_of_both (is_plain x) (list_all is_plain xs) h))) (plains_unmarked xs (second_of_both (is_plain x) (list_all is_plain xs) h))

pub plain_tags : (xs : List ℕ) → list_all is_plain xs ≡ true → HasOwnTags xs 0 0 0 0
plain_tags xs h = unmarked_tags xs (plains_unmarked xs h)
