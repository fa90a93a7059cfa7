pub mod Trial
pub mod Reasons
pub mod Challenged
pub mod Verdict
pub mod Honest
pub mod Evidence
pub mod Tables
pub mod Openings
