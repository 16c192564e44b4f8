pub mod PageIndex
pub mod UrlIndices
pub mod WebLines
