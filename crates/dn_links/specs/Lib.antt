pub mod Link
pub mod Going
pub mod ClientLink
pub mod MessageLink
pub mod Judging
pub mod Call
