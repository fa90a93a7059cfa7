pub mod Play
pub mod Played
pub mod Racing
pub mod Inside
