pub mod Laws
pub mod ByteLaws
