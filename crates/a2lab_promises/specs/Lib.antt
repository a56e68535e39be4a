pub mod Filmed
