pub mod Requests
