mod Blocks
mod Widths
mod Negatives
pub mod Faults
pub mod RowTests
pub mod Same
mod Searching
pub mod Exists
