pub mod Whole
pub mod Acts
pub mod Shows
pub mod Headline
pub mod Parts
pub mod Sample
