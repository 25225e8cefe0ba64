pub mod Passwords
pub mod Requests
