mod Pieces
pub mod EndLemmas
