-- That made parts are the chart of the grid and the sheet.
pub mod Named
pub mod Used
pub mod FeatureKinds
pub mod Rest
pub mod Soundings
pub mod Traces
pub mod Edges
pub mod Sides
pub mod Levels
pub mod Contours
pub mod Pointers
pub mod Areas
pub mod Coverage
pub mod Whole
