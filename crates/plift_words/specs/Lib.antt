pub mod Line
pub mod Values
pub mod Query
pub mod Job
pub mod Laws
pub mod Parser
pub mod Given
