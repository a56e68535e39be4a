pub mod Agains
pub mod Backs
pub mod Paces
pub mod Played
pub mod Replays
