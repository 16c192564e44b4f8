pub mod Prelude
pub mod Ends
pub mod Lossless
pub mod Outcomes
pub mod Turning
