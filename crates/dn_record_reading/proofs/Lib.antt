pub mod FieldFaults
pub mod Loop
