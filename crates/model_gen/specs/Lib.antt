pub mod Ladder
pub mod Laws
