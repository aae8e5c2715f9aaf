pub mod Outside
pub mod Whole
pub mod Memory
pub mod Word
pub mod Begins
pub mod Laws
pub mod Window
pub mod Lines
