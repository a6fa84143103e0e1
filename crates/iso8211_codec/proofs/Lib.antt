pub mod Entries
pub mod Again
pub mod Cut
pub mod Turns
pub mod Tiles
