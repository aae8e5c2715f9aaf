pub mod Claim
pub mod Miss
pub mod Form
pub mod Laws
pub mod Held
