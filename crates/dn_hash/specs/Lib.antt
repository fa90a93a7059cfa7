pub mod Inputs
pub mod Digests
