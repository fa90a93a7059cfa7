pub use Rattle.dn_hss_definitions.specs.Hss
pub use Rattle.dn_hss_definitions.specs.Signed
pub mod Leaves
pub mod Origin
pub mod Inside
