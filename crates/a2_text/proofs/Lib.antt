pub mod Cutting
mod NumberLaws
pub mod WordLaws
