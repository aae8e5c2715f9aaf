mod Complete
mod Cutting
mod Cuts
mod Literals
pub mod Matching
mod Names
mod Planning
mod Sound
mod Whole
