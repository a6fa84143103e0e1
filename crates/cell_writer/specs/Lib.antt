pub mod Layout
pub mod Sized
pub mod Drafts
pub mod Sizes
