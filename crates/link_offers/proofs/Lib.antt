pub mod Prelude
pub mod LinkResults
pub mod Logs
