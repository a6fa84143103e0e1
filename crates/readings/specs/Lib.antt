pub mod Readings
pub mod Finds
