pub mod Operand
pub mod Layout
pub mod Formatted
