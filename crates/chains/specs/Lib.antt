pub mod Nets
pub mod Tracing
