pub mod Axis
pub mod Ends
pub mod Depths
pub mod Stepping
pub mod Shown
pub mod Steps
pub mod Known
pub mod Halves
