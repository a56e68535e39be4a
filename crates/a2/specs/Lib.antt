pub mod Grammar
pub mod Words
pub mod Telling
pub mod Program
