pub mod Trim
pub mod Signed
pub mod Certificate
pub mod Floor
pub mod Chain
pub mod Evidence
pub mod Opening
