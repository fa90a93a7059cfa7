pub mod Puts
pub mod Shows
pub mod Known
pub mod Words
