pub mod Blanks
pub mod Listing
pub mod NameTable
pub mod Uses
