pub mod Parameters
pub mod Chain
pub mod Digits
pub mod Ots
