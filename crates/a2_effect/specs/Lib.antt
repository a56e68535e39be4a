pub mod Registers
pub mod Arithmetic
pub mod Place
pub mod Effect
pub mod Instruction
pub mod View
pub mod Live
pub mod Operands
