pub mod Parsing
pub mod Found
pub mod Tests
