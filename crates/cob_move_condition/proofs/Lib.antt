pub mod TextLemmas
pub mod NumberLemmas
pub mod ClassLemmas
pub mod OperandLemmas
pub mod OneLemmas
