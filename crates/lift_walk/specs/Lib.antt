pub mod Sides
pub mod Halved
pub mod Shown
pub mod Bases
pub mod Given
pub mod Steps
pub mod Laws
