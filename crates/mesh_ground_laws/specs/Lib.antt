pub mod Grounds
pub mod ClosedPieces
