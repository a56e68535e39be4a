pub mod Answering
pub mod Numbered
pub mod Lists
pub mod Pieces
