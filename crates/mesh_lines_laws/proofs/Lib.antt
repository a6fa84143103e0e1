mod Ranks
mod Spots
mod Names
mod PartEnds
mod ChordEnds
mod Apart
mod Outline
mod Corner
mod Beside
mod AtNodes
mod Counted
pub mod Segments
pub mod ChordCorners
mod ChordsApart
