pub mod Signable
pub mod SameClient
pub mod Spelled
pub mod FirstOfKind
pub mod Puts
pub mod Lengths
