pub mod Bytes
pub mod Called
pub mod Calls
pub mod Choices
pub mod Trace
pub mod Traced
