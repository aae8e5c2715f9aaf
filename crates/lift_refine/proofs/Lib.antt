pub mod Rectangles
pub mod Trees
