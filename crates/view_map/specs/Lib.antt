pub mod Parts
pub mod Share
pub mod Mapping
pub mod Slice
pub mod Choice
