pub mod ChartOf
pub mod WellFormed
pub mod Faultless
