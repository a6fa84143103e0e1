pub mod Edges
pub mod Views
pub mod Nets
pub mod Collecting
pub mod ChainEdges
