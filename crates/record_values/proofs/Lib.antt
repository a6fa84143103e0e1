pub mod Steps
pub mod AttributeSteps
pub mod FieldSteps
pub mod Texts
pub mod Sizes
pub mod Sounds
