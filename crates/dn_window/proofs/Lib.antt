pub mod ClosingLemmas
pub mod HistoryLemmas
