pub mod OrderLaws
pub mod StableSort
