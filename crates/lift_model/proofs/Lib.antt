pub mod Sums
pub mod Choosing
pub mod Tossing
pub mod Timing
pub mod Unions
mod Samples
pub mod Listing
pub mod First
pub mod Laying
pub mod Linking
pub mod OnlyRows
