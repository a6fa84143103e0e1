pub mod Unsafe
pub mod Legs
pub mod Answer
pub mod Laws
pub mod Lines
