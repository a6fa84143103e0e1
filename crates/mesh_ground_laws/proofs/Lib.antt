pub mod Banded
pub mod Drawn
pub mod Counted
pub mod OnParts
mod Agree
mod Cells
pub mod Legs
pub mod ClosedPieces
