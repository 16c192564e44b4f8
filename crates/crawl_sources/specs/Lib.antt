pub mod SeedErrors
pub mod Seeds
pub mod Sources
pub mod Tallies
