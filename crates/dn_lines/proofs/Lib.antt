pub mod NumberLaws
pub mod HexLaws
pub mod FormLaws
pub mod FieldLaws
pub mod Loop
pub mod DigitLaws
