pub mod DealtGroup
pub mod Promising
pub mod Keeping
