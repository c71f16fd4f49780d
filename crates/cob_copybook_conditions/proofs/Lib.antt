pub mod Values
pub mod SpanLemmas
pub mod Ones
pub mod Loops
pub mod NameLemmas
pub mod Texts
