pub mod Listing
pub mod Imported
