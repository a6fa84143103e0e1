pub mod Covering
pub mod Ranks
pub mod Order
pub mod Selecting
pub mod Finding
pub mod Steps
pub mod Widths
pub mod Marking
