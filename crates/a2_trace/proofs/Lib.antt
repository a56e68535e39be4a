pub mod Drawing
mod Pairs
pub mod Storing
pub mod Tracing
