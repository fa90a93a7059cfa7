pub mod Entries
pub mod Listing
pub mod Signed
pub mod Notarized
pub mod Judging
pub mod Tasks
