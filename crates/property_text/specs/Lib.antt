pub mod Until
pub mod Restricted
pub mod Grammar
pub mod Reading
pub mod Formula
pub mod Laws
