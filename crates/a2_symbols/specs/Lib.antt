pub mod Statements
pub mod Places
pub mod Names
