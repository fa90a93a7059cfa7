pub mod Justified
pub mod Identity
pub mod Server
pub mod Keeping
pub mod Answers
pub mod Parts
