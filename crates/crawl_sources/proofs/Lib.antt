pub mod Prelude
pub mod Counts
pub mod Errors
pub mod Least
