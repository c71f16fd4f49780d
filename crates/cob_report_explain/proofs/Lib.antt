pub mod AnyhowLemmas
pub mod EachLemmas
pub mod LawLemmas
pub mod WalkLemmas
pub mod ReadLemmas
pub mod FlowingLemmas
pub mod ConditionLemmas
