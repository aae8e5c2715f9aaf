pub mod Doubled
pub mod Laws
pub mod Range
