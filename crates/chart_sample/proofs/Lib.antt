pub mod Bounds
pub mod Lined
pub mod Noded
pub mod Worked
