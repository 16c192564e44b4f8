pub mod Prelude
mod FolderMaps
mod OnceResults
mod OwnPages
mod Runs
mod SameChecks
mod Served
mod Starts
mod TopCrawls
