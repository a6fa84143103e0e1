pub mod Links
pub mod Pairs
pub mod Walk
pub mod Step
pub mod Permuted
