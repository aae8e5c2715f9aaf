pub mod Cutting
pub mod Shapes
