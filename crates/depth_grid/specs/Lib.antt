pub mod Grid
pub mod Views
pub mod Snap
pub mod Disc
