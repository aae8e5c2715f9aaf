pub mod Expected
pub mod Certificate
pub mod Paid
pub mod Laws
pub mod Decided
pub mod Rooms
pub mod Text
pub mod Built
