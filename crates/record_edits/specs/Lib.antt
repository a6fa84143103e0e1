pub mod Splices
pub mod Attributes
pub mod Edits
pub mod Law
