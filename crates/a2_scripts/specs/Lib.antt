pub mod Replies
pub mod Scripts
pub mod DebugScripts
pub mod Laws
