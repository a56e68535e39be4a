pub mod Laying
pub mod Records
pub mod IntelHex
pub mod Motorola
pub mod Reading
pub mod Plain
pub mod AppleSingle
pub mod Digits
