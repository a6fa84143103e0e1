pub mod Geom
pub mod Segments
