pub mod OneRing
