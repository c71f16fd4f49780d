pub mod BranchLemmas
pub mod NodeLemmas
pub mod Unique
pub mod StandsForLemmas
pub mod ResolvedLemmas
pub mod LengthLemmas
pub mod ItemLemmas
pub mod NaturalLemmas
pub mod PictureLemmas
pub use Rattle.cob_codec.proofs as codec_lemmas
