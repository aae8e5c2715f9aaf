pub mod Arithmetic
pub mod Laws
pub mod Limits
pub mod MultiAffine
pub mod Polynomial
