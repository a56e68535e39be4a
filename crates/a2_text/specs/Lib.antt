pub mod Bytes
pub mod Lines
pub mod FirstError
pub mod Digits
pub mod Json
pub mod Words
pub mod Signs
