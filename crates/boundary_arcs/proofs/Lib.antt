pub mod Sizes
pub mod Numbering
pub mod Adding
pub mod Spans
pub mod Ends
pub mod Sides
pub mod Chording
pub mod Whole
mod LineEnds
mod Turned
mod Chained
pub mod Zips
mod Along
mod Counted
mod TurnSteps
mod NodeSteps
mod NodeUses
pub mod Used
mod Keeping
mod Assembled
mod Standing
mod Running
mod Examples
