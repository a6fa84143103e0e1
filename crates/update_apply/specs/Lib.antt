pub mod Making
pub mod Applied
pub mod Law
