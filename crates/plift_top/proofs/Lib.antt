pub mod Errors
pub mod Asked
pub mod Reading
pub mod Refusals
pub mod Checks
pub mod Soundness
pub mod Testing
pub mod Acts
pub mod Leaves
pub mod Telling
pub mod HeadedTexts
pub mod Parts
pub mod BoundedTexts
pub mod PropertyTexts
pub mod CostTexts
pub mod Lumping
mod Samples
mod Migrating
mod Refused
mod Refining
mod RefineSteps
