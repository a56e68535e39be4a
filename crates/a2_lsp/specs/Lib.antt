pub mod Ranks
pub mod Stages
