pub mod Filling
pub mod Laying
pub mod RunLines
