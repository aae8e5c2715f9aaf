pub mod Charges
pub mod Expected
pub mod Rounded
pub mod Rows
pub mod Collected
pub mod Reaching
pub mod Said
pub mod Laws
