pub mod Rectangle
pub mod Tree
pub mod Splitting
pub mod Region
pub mod Laws
pub mod Parts
pub mod Faults
