pub mod PartLaws
pub mod WordLaws
pub mod OutcomeLaws
pub mod EventLaws
pub mod LineLaws
pub mod OrderLaws
pub mod ListedLaws
