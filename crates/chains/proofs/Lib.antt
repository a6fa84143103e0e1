pub mod Halves
pub mod GoingOn
pub mod Noting
pub mod Counting
pub mod Walking
pub mod Resting
pub mod Permuted
pub mod Chain
pub mod Whole
mod Examples
