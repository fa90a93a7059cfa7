pub mod Logs
pub mod Rule
pub mod Turns
