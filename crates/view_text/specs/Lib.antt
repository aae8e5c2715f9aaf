pub mod Numbers
pub mod Style
pub mod Field
pub mod Axes
pub mod Picture
pub mod Summary
