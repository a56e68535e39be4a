pub mod Worlds
pub mod Typed
pub mod Promised
pub mod Doubling
pub mod Readings
