pub mod Best
pub mod Found
pub mod Nearest
pub mod Reader
pub mod Reading
pub mod Values
pub mod Words
