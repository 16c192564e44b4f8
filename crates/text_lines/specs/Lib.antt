pub mod Fields
pub mod FirstLine
pub mod LeastError
pub mod Lines
