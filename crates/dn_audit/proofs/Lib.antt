pub mod Lists
pub mod Telling
pub mod Groups
pub mod Audits
pub mod Loops
pub mod Sealed
pub mod Payloads
