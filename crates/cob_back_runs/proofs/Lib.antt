pub mod KeepLaw
pub mod ComeLemmas
pub mod RunLaw
pub mod AnswerLemmas
pub mod TestedLemmas
