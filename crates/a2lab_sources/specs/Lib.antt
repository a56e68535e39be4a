pub mod Columns
pub mod Imports
