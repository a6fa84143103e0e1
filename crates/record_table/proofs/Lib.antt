pub mod Leading
pub mod Single
pub mod Written
