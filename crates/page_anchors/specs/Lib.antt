pub mod Escapes
pub mod Ids
pub mod Indicated
