pub mod ColourNames
pub mod Drafts
pub mod RunWords
