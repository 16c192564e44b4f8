pub mod Documents
pub mod Edits
pub mod Links
pub mod Moves
pub mod NewLinks
