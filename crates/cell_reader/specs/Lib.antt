pub mod Faults
pub mod Headers
pub mod Identifiers
pub mod Records
pub mod Reading
pub mod Views
pub mod Sound
