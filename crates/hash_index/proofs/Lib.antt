pub mod Prelude
pub mod Taking
pub mod Listed
pub mod Keeping
