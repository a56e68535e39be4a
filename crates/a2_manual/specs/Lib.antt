pub mod Topics
pub mod Nearest
pub mod Nearer
