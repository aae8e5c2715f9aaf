mod Numbers
mod Pieces
mod Lines
pub mod Counting
