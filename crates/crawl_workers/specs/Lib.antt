pub mod ErrorTexts
pub mod Lossless
pub mod Outcomes
pub mod Ran
pub mod Rounds
pub mod Runs
pub mod Turn
