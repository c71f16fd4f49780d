pub mod Branches
pub mod Symbols
pub mod Breaking
pub mod AreaLemmas
pub mod FittingLemmas
pub mod NodeLemmas
