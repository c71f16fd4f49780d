pub mod Cutting
pub mod Telling
