pub mod Hss
pub mod Signed
