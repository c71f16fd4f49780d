pub mod NamedLemmas
pub mod SameLists
