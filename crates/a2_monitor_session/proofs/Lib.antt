pub mod Looks
pub mod Runs
pub mod Tells
pub mod Waiting
pub mod Besides
