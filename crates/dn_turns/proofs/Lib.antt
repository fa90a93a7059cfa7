pub mod Within
pub mod Logs
pub mod Keeps
pub mod Least
pub mod Joined
pub mod Made
pub mod Own
