pub mod Decided
pub mod Outcomes
