pub mod ImageLaws
pub mod LineLaws
pub mod ShownLaws
