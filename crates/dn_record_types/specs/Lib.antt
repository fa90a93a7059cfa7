pub mod Part
pub mod Exact
pub mod Fields
pub mod Lists
pub mod Records
pub mod Place
