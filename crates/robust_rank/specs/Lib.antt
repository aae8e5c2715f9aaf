pub mod Attracting
pub mod InOrder
pub mod Rate
pub mod Staging
