use Rattle.cell_writer.proofs.Fitting.{whole_size}
use Rattle.cell_writer.proofs.sizes.cell_size.Goals as goal

pub returns : goal.returns
returns c =
    let isolated = rw c.as_slice.ensures at c.in-Some-isolated_sizes.ensures.sum in
    let edges = rw c.as_slice-3.ensures at c.in-Some-edges_size.ensures.sum in
    let features = rw c.as_slice-4.ensures at c.in-Some-features_size.ensures.sum in
    rw c.as_slice-2.ensures
    (whole_size c.args.parts.now c.in-Some.data_set c.in-Some-parameters_size.parameters c.in-Some-isolated_sizes.isolated c.in-Some-edges_size.edges c.in-Some-features_size.features
    c.in-Some.ensures c.in-Some-parameters_size.ensures isolated edges features)
