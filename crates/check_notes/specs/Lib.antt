pub mod Rows
pub mod Unsound
pub mod Status
