pub mod Signatures
pub mod SignedBytes
pub mod Places
pub mod Strings
pub mod Putting
pub mod Words
