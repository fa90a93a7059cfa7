pub mod Going
pub mod Spoken
pub mod Sound
pub mod Certifying
