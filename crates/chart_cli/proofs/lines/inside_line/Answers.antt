use Rattle.std.proofs.Common.{◌≡◌, ◌*◌, ◌+◌, ℤ, Option, Some, None, IfSome, length, refl, sym, ◌∙◌}
use Rattle.depth_grid.specs.Views.{grid_view}
use Rattle.chart_cli.proofs.lines.inside_line.Goals as goal

if_some : (P : ℤ → Type 0) (o : Option ℤ) → ((d : ℤ) → o ≡ Some d → P d) → IfSome o P
if_some P None h = tt
if_some P (Some d) h = h d refl

pub depth_line-requires : goal.depth_line-requires
depth_line-requires c =
    let grid = c.args.grid.now in
    if_some _ c.depth.result (λ d e. grid.limited (c.args.node.row * length (grid_view grid).xs + c.args.node.col) d (sym c.depth.ensures ∙ e))
