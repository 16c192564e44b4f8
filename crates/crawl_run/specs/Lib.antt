pub mod Crawls
pub mod JudgedRuns
pub mod Limits
pub mod Losses
pub mod LosslessRuns
