pub mod Leaves
pub mod Decided
pub mod Ready
pub mod Text
pub mod Laws
pub mod Built
