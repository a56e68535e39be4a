pub mod Cuts
pub mod First
pub mod Numbering
pub mod Reporting
mod Marking
