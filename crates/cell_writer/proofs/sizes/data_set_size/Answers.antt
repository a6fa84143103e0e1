use Rattle.std.proofs.Common.{◌≡◌, ℕ, ◌-◌, ◌^◌, length, sym, ap, ◌∙◌}
use Rattle.std.specs.Prelude.{min}
use Rattle.cell_writer.specs.Layout.{data_set_parts}
use Rattle.iso8211_codec.specs.Layout.{size, lens_of}
use Rattle.cell_writer.proofs.Sizing as s
use Rattle.cell_writer.proofs.sizes.data_set_size.Goals as goal

pub returns : goal.returns
returns c =
    let h = c.args.parts.now.header in
    let isdt = s.and_more _ _ _ (length h.isdt) c.longer-size.ensures c.longer-size-2.ensures in
    let sted = s.and_more _ _ _ (length h.sted) isdt c.longer-size-3.ensures in
    let dsnm = s.and_more _ _ _ (length h.dsnm) sted (rw c.as_slice.ensures at c.longer-size-4.ensures) in
    let edtn = s.and_more _ _ _ (length h.edtn) dsnm (rw c.as_slice-2.ensures at c.longer-size-5.ensures) in
    let updn = s.and_more _ _ _ (length h.updn) edtn (rw c.as_slice-3.ensures at c.longer-size-6.ensures) in
    let psdn = s.and_more _ _ _ (length h.psdn) updn (rw c.as_slice-4.ensures at c.longer-size-7.ensures) in
    let pred = s.and_more _ _ _ (length h.pred) psdn (rw c.as_slice-5.ensures at c.longer-size-8.ensures) in
    let comt = s.and_more _ _ _ (length h.comt) pred (rw c.as_slice-6.ensures at c.longer-size-9.ensures) in
    let n : ℕ = size (lens_of (data_set_parts 0 c.args.parts.now)) in
    let is : c.longer-size-9.result ≡ min n (2 ^ 64 - 1) = comt ∙ ap (λ k. min k (2 ^ 64 - 1)) (sym (s.data_set_size 0 c.args.parts.now)) in
    c.short.ensures ∙ s.stopped n c.longer-size-9.result is
