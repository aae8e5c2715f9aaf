pub mod Steps
pub mod Stepping
pub mod Within
pub mod Lanes
pub mod Decided
pub mod Text
pub mod Rooms
pub mod Laws
