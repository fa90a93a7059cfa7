pub mod FindLemmas
pub mod KeptLemmas
pub mod MemberLemmas
pub mod Shapes
pub mod SaidLemmas
