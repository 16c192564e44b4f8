pub mod Prelude
pub mod SortedParts
