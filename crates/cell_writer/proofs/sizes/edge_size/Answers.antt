use Rattle.std.proofs.Common.{◌≡◌, ℕ, ◌-◌, ◌^◌, ◌∙◌, arith}
use Rattle.std.specs.Prelude.{min}
use Rattle.cell_writer.specs.Layout.{edge_parts}
use Rattle.iso8211_codec.specs.Layout.{size, lens_of}
use Rattle.cell_writer.proofs.Sizing as s
use Rattle.cell_writer.proofs.sizes.edge_size.Goals as goal

pub returns : goal.returns
returns c =
    let inner = rw c.as_slice.ensures at c.groups_size-inner.ensures in
    let n : ℕ = size (lens_of (edge_parts 0 c.args.edge.now)) in
    let is : c.saturating_add.result ≡ min n (2 ^ 64 - 1) = omega (arith, c.saturating_add.ensures, inner, s.edge_size 0 c.args.edge.now) in
    c.short.ensures ∙ s.stopped n c.saturating_add.result is
