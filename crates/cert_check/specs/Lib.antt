pub mod Sound
pub mod Trust
pub mod Answer
pub mod Source
pub mod Laws
pub mod Shown
