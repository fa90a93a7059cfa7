pub mod Race
pub mod Shares
pub mod Given
pub mod Live
pub mod Workers
