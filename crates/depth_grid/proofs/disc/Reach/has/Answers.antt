use Rattle.std.proofs.Common.{◌≡◌, ◌*◌, w32, FitsSigned, unsigned_abs, arith}
use Rattle.std.proofs.lemmas.Int.{to_z-of_z}
use Rattle.depth_grid.proofs.Squares.{squares_fit, across_small}
use Rattle.depth_grid.proofs.disc.Reach.has.Goals as goal

pub overflow_add-result : goal.overflow_add-result
overflow_add-result c =
    let rows_fit : FitsSigned w32 c.args.di = c.ranges.di in
    let cols_fit : FitsSigned w32 c.args.dj = c.ranges.dj in
    let rows : c.unsigned_abs.result ≡ unsigned_abs c.args.di = simp to_z-of_z at c.unsigned_abs.ensures.value in
    let cols : c.unsigned_abs-2.result ≡ unsigned_abs c.args.dj = simp to_z-of_z at c.unsigned_abs-2.ensures.value in
    let across = across_small c.args.self.now.aspect c.unsigned_abs-2.result c.requires.aspect (omega (arith, cols)) in
    record { fits = squares_fit (1000 * c.unsigned_abs.result) (c.args.self.now.aspect * c.unsigned_abs-2.result) (omega (arith, rows)) across }
