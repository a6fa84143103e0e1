pub mod Ticks
pub mod Ranges
