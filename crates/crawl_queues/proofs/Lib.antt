pub mod Prelude
pub mod Entries
pub mod Moves
pub mod Passing
pub mod LogLines
pub mod Histories
