-- What is added to a net, one sub-segment after another.
use Rattle.std.proofs.Common.{◌≡◌, ℕ, ◌+◌, ◌^◌, ◌≤◌, List, [], ◌∷◌, ◌++◌, length, Some, Option, append_assoc, refl, sym, ap, subst, arith, length-append}
use Rattle.std.proofs.lemmas.List.{append-nil}
use Rattle.std.specs.List.{AllZip, slice_get}
use Rattle.boundary_arcs.specs.Collecting.{Adds, HasRoom, IsNumbered, ShowsAll}
use Rattle.boundary_arcs.specs.Nets.{Shows, AreLinesOf}
use Rattle.boundary_arcs.specs.declared.net.Drawn.{Drawn}
use Rattle.boundary_arcs.specs.declared.net.Net.{Net}
use Rattle.chains.specs.declared.Line.{Line}
use Rattle.plane_geom.specs.declared.Point.{Point}

-- lines show what they showed while the points keep their numbers
zip_through : {A B : Type 0} (R S : A → B → Type 0) → ((a : A) (b : B) → R a b → S a b) → (xs : List A) (ys : List B) → AllZip R xs ys → AllZip S xs ys
zip_through R S h [] [] z = tt
zip_through R S h [] (y ∷ ys) z = absurd z
zip_through R S h (x ∷ xs) [] z = absurd z
zip_through R S h (x ∷ xs) (y ∷ ys) z = (h x y z.0, zip_through R S h xs ys z.1)

zip_more : {A B : Type 0} (R : A → B → Type 0) (xs : List A) (ys : List B) (x : A) (y : B) → AllZip R xs ys → R x y → AllZip R (xs ++ x ∷ []) (ys ++ y ∷ [])
zip_more R [] [] x y z h = (h, tt)
zip_more R [] (b ∷ ys) x y z h = absurd z
zip_more R (a ∷ xs) [] x y z h = absurd z
zip_more R (a ∷ xs) (b ∷ ys) x y z h = (z.0, zip_more R xs ys x y z.1 h)

shows_still : (old new : List Point) → ((i : ℕ) (q : Point) → slice_get old i ≡ Some q → slice_get new i ≡ Some q) → (l : Line) (d : Drawn) → Shows old l d → Shows new l d
shows_still old new stay l d s = record { begins = stay l.begin d.seg.a s.begins; ends = stay l.end d.seg.b s.ends; left = s.left; right = s.right }

abbrev pub line_by : ℕ → ℕ → Option ℕ → Option ℕ → Line
line_by a b left right = record { begin = a; end = b; left = left; right = right }

-- a line between the numbers of the ends of a sub-segment, with its sides, adds it
pub adds_line : (old new : Net) (mid : List Point) (d : Drawn) (a b : ℕ) → IsNumbered old.points.keys mid d.seg.a a → IsNumbered mid new.points.keys d.seg.b b
    → new.lines.items ≡ old.lines.items ++ line_by a b d.left d.right ∷ [] → Adds 1 old new (d ∷ [])
adds_line old new mid d a b one two e = record {
  lines = omega (arith, ap length e, length-append old.lines.items (line_by a b d.left d.right ∷ []));
  points = omega (arith, one.few, two.few);
  shows = λ before s. record {
    each = subst (λ ls. AllZip (Shows new.points.keys) ls (before ++ d ∷ [])) (sym e)
        (zip_more (Shows new.points.keys) old.lines.items before (line_by a b d.left d.right) d
        (zip_through (Shows old.points.keys) (Shows new.points.keys) (shows_still old.points.keys new.points.keys (λ i q h. two.stay i q (one.stay i q h))) old.lines.items before s.each)
        (record { begins = two.stay a d.seg.a one.there; ends = two.there; left = refl; right = refl }));
    once = two.once;
  };
}

-- nothing is added
pub adds_none : (net : Net) → Adds 0 net net []
adds_none net = record { lines = omega arith; points = omega arith; shows = λ before s. subst (ShowsAll net) (sym (append-nil before)) s }

-- one thing after another
pub adds_then : (m n : ℕ) (a b c : Net) (xs ys : List Drawn) → Adds m a b xs → Adds n b c ys → Adds (m + n) a c (xs ++ ys)
adds_then m n a b c xs ys h k = record {
  lines = omega (arith, h.lines, k.lines);
  points = omega (arith, h.points, k.points);
  shows = λ before s. subst (ShowsAll c) (append_assoc before xs ys) (k.shows (before ++ xs) (h.shows before s));
}

-- at most as much as a greater number
pub adds_within : (m n : ℕ) (a b : Net) (xs : List Drawn) → m ≤ n → Adds m a b xs → Adds n a b xs
adds_within m n a b xs l h = record { lines = omega (arith, h.lines); points = omega (arith, h.points); shows = h.shows }

-- room for more is left after a part is used
pub room_after : (m n k : ℕ) (a b : Net) (xs : List Drawn) → m + n ≤ k → HasRoom k a → Adds m a b xs → HasRoom n b
room_after m n k a b xs l r h = record { lines = omega (arith, r.lines, h.lines); points = omega (arith, r.points, h.points) }

-- an empty net shows nothing, so what is added to it is all that the net shows
pub stands_for : (n : ℕ) (old new : Net) (subs : List Drawn) → length old.points.keys ≡ 0 → old.lines.items ≡ [] → n ≤ 2 ^ 27 → Adds n old new subs → AreLinesOf new.points.keys new.lines.items subs
stands_for n old new subs none empty few h =
    let before : ShowsAll old [] = record {
      each = subst (λ ls. AllZip (Shows old.points.keys) ls []) (sym empty) tt;
      once = λ i j d less inside. absurd (omega (arith, none, inside));
    } in
    let all = h.shows [] before in
    record { each = all.each; once = all.once; few = omega (arith, few, h.lines, ap length empty); few_points = omega (arith, few, h.points, none) }
