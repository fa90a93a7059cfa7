pub mod Plain
pub mod Client
pub mod Submitting
pub mod Holding
pub mod Accusing
pub mod Answering
pub mod Signing
pub mod Inside
