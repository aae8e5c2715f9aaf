pub mod Showing
pub mod Acting
pub mod Choosing
