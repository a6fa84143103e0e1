pub mod Faults
pub mod Kinds
pub mod Controls
pub mod Values
pub mod Reading
pub mod Sound
