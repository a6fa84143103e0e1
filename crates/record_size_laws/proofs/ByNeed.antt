-- That blocks by need keep the borders of faces and blocks short.
pub mod Carried
pub mod BlockAlone
pub mod Kept
pub mod Whole
