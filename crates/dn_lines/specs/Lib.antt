pub mod Field
pub mod Form
pub mod Fields
pub mod Exact
pub mod Digits
