pub mod Fields
pub mod Groups
pub mod Attributes
pub mod DataSets
pub mod Vectors
pub mod Features
pub mod Views
pub mod Sound
