pub mod Json
pub mod Lines
pub mod Members
pub mod Printing
pub mod ReportText
pub mod Rows
pub mod Today
pub mod Unreached
