pub mod Sixteens
pub mod Sorting
