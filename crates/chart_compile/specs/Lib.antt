pub mod Cell
pub mod Topology
