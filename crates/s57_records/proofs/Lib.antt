pub mod Texts
pub mod Signed
pub mod Again
pub mod Written
pub mod Repeats
