pub mod ListLemmas
pub mod DrawLemmas
pub mod EnvelopeLemmas
pub mod ChallengeLemmas
pub mod DealtLemmas
pub mod SaidLemmas
pub mod SizeLemmas
