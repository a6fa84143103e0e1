pub mod Nodes
pub mod Numbered
pub mod Contents
pub mod Contours
pub mod Areas
pub mod Order
pub mod Made
pub mod Laws
