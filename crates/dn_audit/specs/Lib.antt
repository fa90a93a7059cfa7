pub mod Group
pub mod Strings
pub mod Signatures
pub mod Auditor
pub mod Envelopes
