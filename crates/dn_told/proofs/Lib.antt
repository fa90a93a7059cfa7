pub mod WindowLemmas
pub mod ToldLemmas
