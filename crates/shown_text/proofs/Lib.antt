pub mod Prelude
pub mod Pieces
pub mod Visible
