pub mod Plain
pub mod Marks
