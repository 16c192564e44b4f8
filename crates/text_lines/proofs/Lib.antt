pub mod Prelude
pub mod CutLines
