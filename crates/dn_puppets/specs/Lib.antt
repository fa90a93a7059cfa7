pub mod Puppets
pub mod Clients
pub mod Statements
pub mod Waiting
pub mod Aims
pub mod Carried
pub mod Injections
pub mod Lures
