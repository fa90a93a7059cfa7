pub mod Laws
pub mod FieldLaws
pub mod ListLaws
pub mod BitLaws
pub mod RecordLaws
