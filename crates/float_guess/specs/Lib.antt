pub mod Notes
pub mod Part
pub mod Rule
pub mod Reward
