pub mod Placing
pub mod Grouping
pub mod Complete
pub mod Sound
pub mod Pieces
pub mod Known
