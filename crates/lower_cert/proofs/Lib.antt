pub mod Means
pub mod Capped
pub mod Closed
pub mod Stuck
pub mod Guess
pub mod Heights
pub mod Renumbering
mod Samples
pub mod Lowering
pub mod Settling
pub mod Sweeping
pub mod Lanes
pub mod Exits
pub mod BestExit
pub mod Beginning
pub mod Holding
