pub mod Units
pub mod Words
