pub mod Depths
pub mod Sample
pub mod Rules
