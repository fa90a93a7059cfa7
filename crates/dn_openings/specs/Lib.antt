pub mod Evidence
pub mod Challenging
pub mod Accusing
pub mod Hearing
pub mod Open
pub mod Discipline
