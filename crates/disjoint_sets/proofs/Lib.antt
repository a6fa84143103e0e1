mod Counting
mod Hanging
pub mod Ways
