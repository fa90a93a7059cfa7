pub mod Run
pub mod Promises
pub mod Kept
pub mod Inside
