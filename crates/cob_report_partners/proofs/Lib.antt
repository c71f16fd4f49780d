pub mod NamingLemmas
pub mod RecordLemmas
pub mod SoughtLemmas
pub mod CounterLemmas
pub mod BoundLemmas
pub mod PrefixLemmas
