pub mod Building
pub mod Collapse
pub mod Filled
pub mod Finding
pub mod Laws
