pub mod Compaction
pub mod Errors
pub mod Lists
pub mod LogFile
pub mod Plans
