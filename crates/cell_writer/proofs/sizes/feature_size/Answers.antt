use Rattle.std.proofs.Common.{◌≡◌, ℕ, ◌-◌, ◌^◌, ◌∙◌, arith}
use Rattle.std.specs.Prelude.{min}
use Rattle.cell_writer.specs.Layout.{feature_parts}
use Rattle.iso8211_codec.specs.Layout.{size, lens_of}
use Rattle.cell_writer.proofs.Sizing as s
use Rattle.cell_writer.proofs.sizes.feature_size.Goals as goal

pub returns : goal.returns
returns c =
    let attributes = rw c.as_slice.ensures at c.attributes_size-attributes.ensures in
    let pointers = rw c.as_slice-2.ensures at c.groups_size-pointers.ensures in
    let n : ℕ = size (lens_of (feature_parts 0 c.args.feature.now)) in
    let is : c.saturating_add-2.result ≡ min n (2 ^ 64 - 1) = omega (arith, c.saturating_add.ensures, c.saturating_add-2.ensures, attributes, pointers, s.feature_size 0 c.args.feature.now) in
    c.short.ensures ∙ s.stopped n c.saturating_add-2.result is
