pub mod Arena
pub mod Chains
pub mod Flight
pub mod Side
pub mod Whole
