pub use Rattle.dn_record_types.specs.Part
pub use Rattle.dn_record_types.specs.Exact
pub use Rattle.dn_record_types.specs.Fields
pub use Rattle.dn_record_types.specs.Lists
pub use Rattle.dn_record_types.specs.Records
pub use Rattle.dn_record_types.specs.Place
