pub mod Crossing
pub mod OneRing
