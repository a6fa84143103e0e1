pub mod Exterior
pub mod Begins
