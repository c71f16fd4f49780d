mod LosingLemmas
pub mod GatherLemmas
pub mod PlaceLemmas
pub mod StatementLemmas
pub mod MeetLemmas
pub mod SweepLemmas
