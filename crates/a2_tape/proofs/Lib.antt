pub mod TapeLaws
