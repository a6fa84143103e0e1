-- The entries of sides: one more side, and how large the numbers of buckets are.
use Rattle.std.proofs.Common.{◌≡◌, ℕ, ◌+◌, ◌*◌, ◌^◌, ◌/◌, ◌<◌, ◌≤◌, ℤ, List, [], ◌∷◌, ◌++◌, map, length, get_or, take, sym, ◌∙◌, ap, ap₂, subst, arith}
use Rattle.std.proofs.lemmas.List.{append-nil, take_more}
use Rattle.std.proofs.lemmas.List.Concat.{flat_map-append}
use Rattle.std.proofs.lemmas.List.Elements.{All-append, All-cons, All-map, All-nil, All-weaker}
use Rattle.std.proofs.lemmas.List.Sums.{count_by-le-length}
use Rattle.std.specs.Int.RustNames.{int_le}
use Rattle.std.specs.List.{All, flat_map}
use Rattle.chart_query.proofs.Splitting.{after_first, split_within}
use Rattle.chart_query.specs.Buckets.{IsBelow}
use Rattle.chart_query.specs.Ready.{entries_of, side_entries}
use Rattle.chart_query.specs.Sides.{high_of, low_of}
use Rattle.chart_query.specs.Split.{buckets_of, entry_of, FitsSplit, IsSplit, split_nodes}
use Rattle.chart_query.specs.Strips.{strip}
use Rattle.chart_query.specs.declared.sides.Side.{Side}
use Rattle.chart_query.specs.declared.split.Entry.{Entry}

pub strip_within : (heights : List ℤ) (y : ℤ) → strip heights y ≤ length heights
strip_within heights y = count_by-le-length (λ h. int_le h y) heights

bases_within : (bases : List ℕ) (first last after : ℕ) → IsSplit bases first last after → All (λ base. base ≤ after) bases
bases_within [] first last after s = All-nil (λ base. base ≤ after)
bases_within (b ∷ bases) first last after s = All-cons (λ base. base ≤ after) b bases (omega (arith, s.0, after_first bases (first + (last + 1)) (last / 2) after s.1)) (bases_within bases (first + (last + 1)) (last / 2) after s.1)

-- a split of no more strips than there are heights fits the machine
pub split_fits : (bases : List ℕ) (after last low high : ℕ) → IsSplit bases 1 last after → last ≤ 2 ^ 32 → after ≤ 1 + 3 * last → low ≤ last → high ≤ last → FitsSplit bases after low high
split_fits bases after last low high s few small l h = record {
  levels = All-weaker (λ base. base ≤ after) (λ base. base + high < 2 ^ 64) (λ base b. omega (arith, b)) bases (bases_within bases 1 last after s);
  top = omega arith;
  small = omega arith;
}

pub one_entered : (heights : List ℤ) (bases : List ℕ) (after : ℕ) (sides : List Side) (i : ℕ) (d : Side) (entries more : List Entry) (from to : ℕ) → i < length sides → entries ≡ entries_of heights bases after (take i sides)
    → from ≡ strip heights (low_of (get_or sides i d)) → to ≡ strip heights (high_of (get_or sides i d)) → more ≡ entries ++ map (entry_of (get_or sides i d)) (buckets_of bases after from to) → more ≡ entries_of heights bases after (take (i + 1) sides)
one_entered heights bases after sides i d entries more from to h e f g m =
    m ∙ ap₂ (λ u v. u ++ v) e (ap₂ (λ a b. map (entry_of (get_or sides i d)) (buckets_of bases after a b)) f g ∙ sym (append-nil (side_entries heights bases after (get_or sides i d))))
    ∙ sym (ap (flat_map (side_entries heights bases after)) (take_more sides i d h) ∙ flat_map-append (side_entries heights bases after) (take i sides) (get_or sides i d ∷ []))

-- all entries are of the split's buckets
pub entries_below : (heights : List ℤ) (bases : List ℕ) (after : ℕ) (sides : List Side) → IsSplit bases 1 (length heights) after → All (IsBelow (after + length heights + 1)) (entries_of heights bases after sides)
entries_below heights bases after [] s = All-nil (IsBelow (after + length heights + 1))
entries_below heights bases after (x ∷ sides) s = All-append (IsBelow (after + length heights + 1)) (side_entries heights bases after x) (entries_of heights bases after sides)
    (All-map (IsBelow (after + length heights + 1)) (entry_of x) (buckets_of bases after (strip heights (low_of x)) (strip heights (high_of x)))
    (All-append (λ k. k < after + length heights + 1) (split_nodes bases (strip heights (low_of x)) (strip heights (high_of x))) ((after + strip heights (high_of x)) ∷ [])
    (All-weaker (λ k. (1 ≤ k) × (k < after)) (λ k. k < after + length heights + 1) (λ k w. omega (arith, w.1)) (split_nodes bases (strip heights (low_of x)) (strip heights (high_of x))) (split_within bases 1 (length heights) after (strip heights (low_of x)) (strip heights (high_of x)) s (strip_within heights (high_of x))))
    (All-cons (λ k. k < after + length heights + 1) (after + strip heights (high_of x)) [] (omega (arith, strip_within heights (high_of x))) (All-nil (λ k. k < after + length heights + 1)))))
    (entries_below heights bases after sides s)

-- the same of entries of heights that were found as a vector's
pub all_below : (heights lent : List ℤ) (bases : List ℕ) (after last limit : ℕ) (sides : List Side) (entries : List Entry) → lent ≡ heights → last ≡ length heights → IsSplit bases 1 last after → limit ≡ after + length heights + 1
    → entries ≡ entries_of lent bases after sides → All (IsBelow limit) entries
all_below heights lent bases after last limit sides entries e f s g h =
    subst (λ t. All (IsBelow t) entries) (sym g) (subst (All (IsBelow (after + length heights + 1))) (sym (h ∙ ap (λ t. entries_of t bases after sides) e))
    (entries_below heights bases after sides (subst (λ n. IsSplit bases 1 n after) f s)))
