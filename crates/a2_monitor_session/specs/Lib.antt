pub mod Screens
pub mod Presses
pub mod Calls
pub mod Monitors
pub mod Waits
pub mod Besides
