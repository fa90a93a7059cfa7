pub use Rattle.dn_lms_definitions.specs.Key
pub use Rattle.dn_lms_definitions.specs.Tree
pub use Rattle.dn_lms_definitions.specs.Signature
pub mod Filled
pub mod Pair
pub mod Fault
