pub mod LayoutLemmas
pub mod MaskLemmas
pub mod RangeLemmas
pub mod RoundTrip
pub mod LengthLemmas
