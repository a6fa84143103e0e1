-- How much a small rectangle of cells asks for.
pub mod Bounds
pub mod Parts
pub mod Triangle
pub mod Faces
pub mod Outline
