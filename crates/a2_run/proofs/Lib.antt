pub mod Reading
pub mod Screens
pub mod Runs
pub mod OneText
pub mod FreeText
pub mod EachText
pub mod Refusing
pub mod Lengths
