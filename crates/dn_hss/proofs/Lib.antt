pub mod KeyLemmas
pub mod VerifierLemmas
