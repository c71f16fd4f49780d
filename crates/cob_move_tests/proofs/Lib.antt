pub mod OwnLemmas
pub mod AskedLemmas
mod ReadLemmas
mod StepLemmas
pub mod OneLemmas
pub mod NoRuleLemmas
