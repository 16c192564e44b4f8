pub mod Prelude
pub mod Format
pub mod Adding
pub mod Printed
pub mod Sets
pub mod OneOrder
pub mod ReportLaws
