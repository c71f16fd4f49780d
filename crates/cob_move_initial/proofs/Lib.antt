pub mod ItemLemmas
pub mod PartLemmas
pub mod BegunLemmas
pub mod InitialLemmas
pub mod ReadyLemmas
pub mod AtPlaceLemmas
pub mod OneInitialLaw
