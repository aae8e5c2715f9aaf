pub mod Homogeneous
pub mod Alike
pub mod Vectors
pub mod Scaled
pub mod Admitted
pub mod Regions
pub mod Refining
pub mod Rectangles
