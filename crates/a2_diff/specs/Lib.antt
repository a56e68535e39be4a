pub mod Rows
pub mod Comparison
