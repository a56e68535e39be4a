pub mod Filmed
pub mod Saved
