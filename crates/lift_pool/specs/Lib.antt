pub mod Lanes
pub mod Shapes
pub mod Cuts
pub mod Lends
pub mod Laws
