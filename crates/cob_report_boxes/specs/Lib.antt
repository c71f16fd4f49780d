pub mod Shown
pub mod Conditions
