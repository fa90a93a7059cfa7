pub mod Board
pub mod Reads
