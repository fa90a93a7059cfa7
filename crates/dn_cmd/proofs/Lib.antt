pub mod WindowLemmas
pub mod PassLemmas
pub mod RoundLemmas
pub mod RunLemmas
pub mod CheckLemmas
pub mod ShowingLemmas
