pub mod StretchLemmas
pub mod RecordNameLemmas
