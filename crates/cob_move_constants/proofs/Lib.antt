pub mod LaidOutLemmas
pub mod WordLemmas
