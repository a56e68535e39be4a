pub mod Typed
pub mod Words
pub mod Finished
pub mod Rerun
pub mod Records
