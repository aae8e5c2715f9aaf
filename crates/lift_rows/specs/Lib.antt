pub mod Number
pub mod Admitted
pub mod Fault
pub mod Sums
pub mod Laws
