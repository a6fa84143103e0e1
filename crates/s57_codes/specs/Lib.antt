pub mod Catalogue
pub mod Law
