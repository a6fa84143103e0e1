pub mod SmallRectangles
pub mod ByNeed
pub mod Records
