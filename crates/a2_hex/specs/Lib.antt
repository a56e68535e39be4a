pub mod Images
pub mod ObjectText
pub mod ObjectLines
pub mod Texts
