pub mod Writing
pub mod Reading
pub mod Gathering
pub mod WindowParts
pub mod Fronts
pub mod ReadingOn
