pub mod Sides
pub mod Ordering
pub mod Multiples
pub mod Ring
pub mod LiteralEnds
pub mod Parsed
pub mod Spans
pub mod Axis
pub mod Writes
pub mod Halves
pub mod Tiling
mod Samples
