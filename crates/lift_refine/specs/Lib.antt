pub mod Deeper
pub mod Laws
