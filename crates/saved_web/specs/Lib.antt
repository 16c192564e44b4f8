pub mod Ahead
pub mod KnownLinks
pub mod KnownPages
pub mod LongPages
pub mod Reading
