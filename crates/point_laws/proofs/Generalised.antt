-- A grid is generalised in one way: its opened depths are greatest numbers, and its charted depths are those rounded.
use Rattle.std.proofs.Common.{◌≡◌, ℕ, ◌*◌, ◌/◌, ◌%◌, ◌<◌, ℤ, ◌≤ℤ◌, Option, Some, None, List, length, get_or, sym, ap, ◌∙◌, subst, arith}
use Rattle.std.proofs.lemmas.Int.{ints}
use Rattle.std.proofs.lemmas.List.{ext_get_or}
use Rattle.depth_grid.specs.Grid.{IsGrid, GridView, depth_at}
use Rattle.point_laws.specs.Once.{GeneralisedOnce}
use Rattle.shoal_buffer.proofs.Places.{col_below, place_back, row_below}
use Rattle.shoal_buffer.specs.Charted.{AreOpened, AreShoaled, ChartedView, IsOpenedAt, IsShoaledAt}
use Rattle.shoal_buffer.specs.Opening.{IsGreatest}

-- a greatest number is one
greatest_once : (P : ℤ → Type 0) (x y : ℤ) → IsGreatest P x → IsGreatest P y → x ≡ y
greatest_once P x y a b =
    let up : x ≤ℤ y = b.greatest x a.stands in
    let down : y ≤ℤ x = a.greatest y b.stands in
    omega (arith, ints, up, down)

-- a node has one opened depth
opened_once_at : (g : GridView) (aspect radius row col : ℕ) (d r s : Option ℤ) → IsOpenedAt g aspect radius row col d r → IsOpenedAt g aspect radius row col d s → r ≡ s
opened_once_at g aspect radius row col None r s a b = a ∙ sym b
opened_once_at g aspect radius row col (Some d) r s a b = a.1 ∙ (ap (λ (x : ℤ). Some x) (greatest_once _ a.0 b.0 a.2.greatest b.2.greatest) ∙ sym b.1)

-- and one charted depth
shoaled_once_at : (step_from steps : List ℤ) (d r s : Option ℤ) → IsShoaledAt step_from steps d r → IsShoaledAt step_from steps d s → r ≡ s
shoaled_once_at step_from steps None r s a b = a ∙ sym b
shoaled_once_at step_from steps (Some mm) r s a b = a.1 ∙ (ap (λ (x : ℤ). Some x) (a.2.value ∙ sym b.2.value) ∙ sym b.1)

-- so the opened depths of a grid are one list
opened_once : (g : GridView) (aspect radius : ℕ) (os ps : List (Option ℤ)) → IsGrid g → AreOpened g aspect radius os → AreOpened g aspect radius ps → os ≡ ps
opened_once g aspect radius os ps grid a b = ext_get_or None os ps (a.full ∙ sym b.full) at
  where
    some : 0 < length g.xs
    some = let h = grid.columns.several in omega (arith, h)

    at : (k : ℕ) → k < length os → get_or os k None ≡ get_or ps k None
    at k l =
        let cols = length g.xs in
        let inside : k < length g.ys * cols = let e = a.full in let f = grid.full in omega (arith, l, e, f) in
        let row = row_below k (length g.ys) cols some inside in
        let col = col_below k cols some in
        let here = opened_once_at g aspect radius (k / cols) (k % cols) (depth_at g (k / cols) (k % cols)) _ _ (a.each (k / cols) (k % cols) row col) (b.each (k / cols) (k % cols) row col) in
        subst (λ i. get_or os i None ≡ get_or ps i None) (place_back k cols) here

-- and the charted depths of one list of opened ones are one list
shoaled_once : (step_from steps : List ℤ) (os cs ds : List (Option ℤ)) → AreShoaled step_from steps os cs → AreShoaled step_from steps os ds → cs ≡ ds
shoaled_once step_from steps os cs ds a b =
    ext_get_or None cs ds (a.full ∙ sym b.full) (λ k l.
    let inside : k < length os = let e = a.full in omega (arith, l, e) in
    shoaled_once_at step_from steps (get_or os k None) (get_or cs k None) (get_or ds k None) (a.each k inside) (b.each k inside))

-- two views with the same grid, opened and charted depths are one
same_view : (v w : ChartedView) → v.grid ≡ w.grid → v.opened ≡ w.opened → v.charted ≡ w.charted → v ≡ w
same_view v w a b c = λ i. record { grid = a i; opened = b i; charted = c i }

-- so a grid is generalised in one way
pub generalised_once : GeneralisedOnce
generalised_once g aspect radius step_from steps v w grid a b =
    let opened = opened_once g aspect radius v.opened w.opened grid a.opened b.opened in
    let charted = shoaled_once step_from steps w.opened v.charted w.charted (subst (λ os. AreShoaled step_from steps os v.charted) opened a.charted) b.charted in
    same_view v w (a.grid ∙ sym b.grid) opened charted
