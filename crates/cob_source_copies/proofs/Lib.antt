pub mod CutLemmas
pub mod TogetherLemmas
pub mod ExchangeLemmas
pub mod OperandLemmas
pub mod PartLemmas
pub mod ExpansionLemmas
pub mod LibraryLemmas
pub mod FetchLemmas
