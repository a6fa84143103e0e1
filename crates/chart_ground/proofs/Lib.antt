pub mod Known
pub mod Charted
pub mod Told
