pub mod Checksums
pub mod Colours
pub mod Dots
pub mod Png
pub mod Shapes
