pub mod Forms
pub mod Saying
pub mod Misses
pub mod First
pub mod Limits
pub mod Rows
pub mod EachKind
pub mod Told
pub mod RowTests
mod Samples
