use Rattle.std.proofs.Common.{◌≡◌, ℕ, ◌-◌, ◌^◌, ◌∙◌, arith}
use Rattle.std.specs.Prelude.{min}
use Rattle.cell_writer.specs.Layout.{isolated_parts}
use Rattle.iso8211_codec.specs.Layout.{size, lens_of}
use Rattle.cell_writer.proofs.Sizing as s
use Rattle.cell_writer.proofs.sizes.isolated_size.Goals as goal

pub returns-in-Soundings : goal.returns-in-Soundings
returns-in-Soundings c =
    let soundings = rw c.as_slice.ensures at c.saturating_mul-soundings.ensures in
    let n : ℕ = size (lens_of (isolated_parts 0 c.args.node.now)) in
    let is : c.saturating_add.result ≡ min n (2 ^ 64 - 1) = omega (arith, c.saturating_add.ensures, soundings, s.isolated_size 0 c.args.node.now c.in-Soundings.list c.in-Soundings.is) in
    c.short.ensures ∙ s.stopped n c.saturating_add.result is
