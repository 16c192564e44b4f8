pub mod Prelude
pub mod Block
mod Directive
mod Plain
mod Searched
