pub mod Finer
pub mod Refined
pub mod Laws
