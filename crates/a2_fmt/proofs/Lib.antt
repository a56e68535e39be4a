pub mod Rows
pub mod Bareness
