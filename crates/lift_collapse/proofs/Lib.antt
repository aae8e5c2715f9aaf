mod Targets
mod Stamps
mod Names
mod Collapses
mod Models
pub mod Rows
pub mod Kept
pub mod Admitted
pub mod Scene
pub mod Upper
pub mod Lower
pub mod Spread
mod Cases
