pub mod LineLemmas
pub mod TurnedLemmas
