pub mod Leading
pub mod Prelude
