pub mod Steps
pub mod Filters
pub mod Others
pub mod Once
pub mod Modified
pub mod Formed
pub mod Causes
pub mod Made
