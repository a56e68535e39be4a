pub mod FlagBits
pub mod Digits
