pub mod Bytes
pub mod Cutting
pub mod Lines
pub mod Spans
pub mod Steps
pub mod Symbols
pub mod Words
