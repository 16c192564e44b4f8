pub mod Prelude
pub mod EndedRuns
pub mod JudgedRuns
pub mod LostUrls
pub mod RunResults
pub mod WithoutLoss
