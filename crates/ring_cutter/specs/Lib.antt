pub mod Rings
pub mod Cutting
