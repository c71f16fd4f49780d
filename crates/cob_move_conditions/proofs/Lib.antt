pub mod WordLemmas
pub mod RelationLemmas
pub mod TestLemmas
pub mod ConditionLemmas
mod OneLemmas
