pub mod Opening
pub mod Charted
pub mod Picks
pub mod Views
pub mod Chords
pub mod Keys
pub mod Cores
pub mod Passes
