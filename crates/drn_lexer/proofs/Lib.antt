pub mod Contents
pub mod Cuts
pub mod Found
pub mod Lanes
pub mod Pieces
pub mod Plain
pub mod Runs
pub mod Verdicts
