pub mod Refused
pub mod Given
pub mod Choice
pub mod Shown
pub mod Answers
