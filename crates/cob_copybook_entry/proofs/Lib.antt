pub mod Words
pub use Rattle.cob_picture.proofs as picture_lemmas
