pub mod Block
pub mod Layout
pub mod Fault
