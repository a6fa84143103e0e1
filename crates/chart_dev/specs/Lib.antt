pub mod Contents
pub mod Faults
pub mod Memory
pub mod Files
pub mod Kinds
