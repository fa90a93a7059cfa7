pub mod Closing
pub mod Window
