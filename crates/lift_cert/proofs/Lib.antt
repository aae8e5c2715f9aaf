pub mod Inductive
pub mod Accepting
pub mod Misses
pub mod RejectMisses
pub mod Holding
pub mod Rejecting
pub mod BothKinds
pub mod Targets
pub mod QuickTests
mod Samples
