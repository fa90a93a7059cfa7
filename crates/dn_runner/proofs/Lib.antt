pub mod GroupLemmas
mod MemberLemmas
mod OrderLemmas
mod RaceLemmas
pub mod TellingLemmas
