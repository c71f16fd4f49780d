pub mod TableLemmas
pub mod NamedLemmas
