pub mod Once
pub mod Lines
pub mod Places
pub mod Alike
pub mod Answered
