pub mod Lists
pub mod Slots
pub mod Overflow
pub mod Index
