pub mod CharacterLemmas
pub mod PaddingLemmas
pub mod ConstantLemmas
pub mod NumberLemmas
pub mod OneLemmas
pub mod CopyingLemmas
