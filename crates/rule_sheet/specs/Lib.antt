pub mod Keys
pub mod Values
pub mod Rows
pub mod Sheet
pub mod Views
