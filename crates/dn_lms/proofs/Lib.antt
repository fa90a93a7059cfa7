pub mod TreeLemmas
pub mod VerifyLemmas
pub mod PairLemmas
pub mod SizeLemmas
