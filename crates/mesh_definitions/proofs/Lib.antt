pub mod Bands
mod Tries
pub mod Areas
