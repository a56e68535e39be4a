mod Looking
mod Ranks
mod Finder
mod Stopping
mod Meanings
mod Inner
mod Leaves
mod Joints
mod Changing
mod Telling
pub mod Names
pub mod Tokens
pub mod Making
pub mod States
pub mod Goings
pub mod Formers
pub mod Joinings
pub mod Countings
pub mod Laying
pub mod Marks
pub mod Facts
pub mod TakenChanges
pub mod Saying
pub mod Above
pub mod Labels
