pub mod Group
pub mod Dealing
pub mod Owners
pub mod Roster
