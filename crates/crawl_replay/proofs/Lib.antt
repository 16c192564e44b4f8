pub mod Prelude
pub mod Assigned
pub mod EventLines
pub mod HeaderFields
pub mod Least
pub mod LineFields
pub mod NumberText
pub mod ScriptFields
