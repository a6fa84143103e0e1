pub mod Cells
pub mod Touched
pub mod Corners
pub mod Shoal
