pub mod Answering
pub mod Digits
pub mod FirstPlaces
pub mod Gathering
pub mod JobTexts
pub mod MarkLemmas
