pub mod ErrorLines
pub mod Desks
pub mod Shelves
