mod SmallRectangles
mod ByNeed
mod Records
