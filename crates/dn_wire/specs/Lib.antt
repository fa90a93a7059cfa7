pub mod Cursor
pub mod Fields
pub mod Members
pub mod Signer
