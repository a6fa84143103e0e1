pub mod Storing
pub mod Reading
pub mod Overviews
pub mod Runs
pub mod Verdicts
