-- That made parts keep the conditions of a chart.
pub mod WaysToBorder
pub mod Texts
pub mod Portions
pub mod BorderEdges
pub mod AreaPointers
pub mod Features
pub mod SetBorders
pub mod Whole
