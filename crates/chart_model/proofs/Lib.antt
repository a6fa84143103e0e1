pub mod Counting
pub mod Finding
pub mod Indexing
pub mod Joining
pub mod Parity
pub mod Wholeness
mod Pointed
