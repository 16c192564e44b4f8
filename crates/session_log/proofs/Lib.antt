pub mod Prelude
mod Logs
mod Rebuilds
