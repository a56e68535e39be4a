pub mod Unread
pub mod Refusals
pub mod Warnings
pub mod Objects
