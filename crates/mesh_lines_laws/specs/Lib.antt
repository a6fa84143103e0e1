pub mod MeshLines
pub mod Chords
