pub mod Bound
pub mod Bounded
pub mod Reached
pub mod Certificate
pub mod Miss
pub mod RejectMiss
pub mod Laws
