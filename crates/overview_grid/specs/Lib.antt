pub mod Least
pub mod Overview
pub mod Narrowed
pub mod Coarse
pub mod Laws
