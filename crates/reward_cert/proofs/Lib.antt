pub mod Steps
pub mod Charging
pub mod Bounding
pub mod Covering
pub mod Valuations
pub mod ReachingLower
pub mod CollectedUpper
pub mod Pushing
pub mod Powers
pub mod Leading
pub mod ReachingUpper
pub mod CollectedLower
pub mod Excluding
pub mod Apart
mod Samples
pub mod Joining
pub mod Meeting
