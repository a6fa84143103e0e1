pub mod EdgeLines
pub mod Tiling
pub mod Depths
pub mod SoundEdges
pub mod Truth
