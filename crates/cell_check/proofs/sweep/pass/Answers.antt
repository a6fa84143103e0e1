use Rattle.std.proofs.Common.{◌++◌, refl, sym, subst, arith, map}
use Rattle.std.specs.List.{filter, slice_range}
use Rattle.std.specs.List.Sorted.{IsPermutation}
use Rattle.cell_check.specs.Joints.{IsJointAt, line_of}
use Rattle.cell_check.specs.Sweeps.{goes_above}
use Rattle.cell_check.proofs.Splicing.{spliced, same_above, three_parts}
use Rattle.cell_check.proofs.sweep.pass.Goals as goal

pub returns-clause-sound : goal.returns-clause-sound
returns-clause-sound c = λ t s. spliced c.args.row.now.items c.put.new.row.items c.deref-4.result.now c.count_before-from.result c.count_through-to.result c.if-to-from.false (omega (arith, c.count_through-to.ensures, c.deref-2.ensures.value)) c.in_ok-put.ensures c.args.count
    (λ at a b. subst (λ r. IsJointAt c.args.count r at) c.deref-5.ensures.value (c.fits_along.ensures t at a (let e = c.len.ensures in let f = c.deref-4.ensures.len in omega arith))) s

pub returns-clause-same : goal.returns-clause-same
returns-clause-same c = λ t. same_above c.args.lo.y c.args.row.now.items c.put.new.row.items (slice_range c.args.row.now.items c.count_before-from.result c.count_through-to.result) c.deref-4.result.now (map line_of c.deref-4.result.now) c.args.more.now c.count_before-from.result c.count_through-to.result c.in_ok-put.ensures (three_parts c.args.row.now.items c.count_before-from.result c.count_through-to.result c.if-to-from.false) refl
    (subst (λ v. IsPermutation (filter (goes_above c.args.lo.y) (map line_of (slice_range c.args.row.now.items c.count_before-from.result c.count_through-to.result)) ++ c.args.more.now) (map line_of v)) (sym c.deref-4.ensures.value)
    (subst (λ r. IsPermutation (filter (goes_above c.args.lo.y) (map line_of (slice_range r c.count_before-from.result c.count_through-to.result)) ++ c.args.more.now) (map line_of c.in_ok-entries.entries.items)) c.deref-3.ensures.value c.in_ok-entries.ensures))
