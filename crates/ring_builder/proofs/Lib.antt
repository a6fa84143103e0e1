mod AreaSums
mod Products
mod Adding
mod Bordering
mod Balance
mod Places
mod Outlines
mod Simple
mod Building
pub mod Orders
mod Traced
pub mod Boundaries
mod Meshes
