pub mod Copied
pub mod Nodes
pub mod Progress
