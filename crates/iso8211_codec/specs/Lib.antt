pub mod Digits
pub mod Reading
pub mod Layout
pub mod Walk
pub mod Views
pub mod Law
pub mod First
pub mod Room
