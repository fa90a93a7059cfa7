pub mod PartLemmas
pub mod SignedLaws
pub mod JudgingLemmas
pub mod ListingLemmas
pub mod SigningLemmas
pub mod RoundTrip
pub mod OneVerdict
