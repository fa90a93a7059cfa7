pub mod Draws
pub mod Rule
pub mod Opening
pub mod Pass
pub mod Order
pub mod Collected
pub mod History
