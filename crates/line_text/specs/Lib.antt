pub mod Words
pub mod Reading
pub mod Parts
pub mod Shown
pub mod Follow
pub mod Found
pub mod Laws
