pub mod DigitLemmas
pub mod ByteLemmas
pub mod KeepingLemmas
pub mod NumberLemmas
pub mod MovedLemmas
pub mod CoveredLemmas
pub mod EndLemmas
pub mod ReceivedLemmas
