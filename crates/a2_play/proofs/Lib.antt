pub mod Earlier
pub mod Keys
pub mod Remade
pub mod Runs
pub mod Worlds
