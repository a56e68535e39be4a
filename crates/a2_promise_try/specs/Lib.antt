pub mod Printing
pub mod Certain
pub mod Failing
pub mod RunLines
pub mod Refusals
pub mod Judging
pub mod Reports
