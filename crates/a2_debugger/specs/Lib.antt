pub mod Words
pub mod Stops
pub mod Alerts
pub mod Conditions
pub mod Settings
pub mod Sayings
pub mod Inspections
