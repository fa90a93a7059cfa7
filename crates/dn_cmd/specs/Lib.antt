pub mod Window
pub mod Round
pub mod Command
pub mod Run
pub mod Check
pub mod Demo
pub mod Answers
