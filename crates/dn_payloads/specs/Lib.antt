pub mod Payloads
pub mod Inside
