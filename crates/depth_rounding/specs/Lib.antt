pub mod Steps
pub mod Bands
pub mod Views
