pub mod Refused
pub mod Behind
