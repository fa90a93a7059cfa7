pub mod ParameterLemmas
pub mod BlockLemmas
pub mod ChainLemmas
pub mod DigitLemmas
pub mod KeyLemmas
