pub mod Dealt
pub mod Signer
pub mod Said
pub mod Challenge
pub mod SigningKey
pub mod Sizes
