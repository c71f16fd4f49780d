pub mod Lengths
pub mod Places
pub mod Cover
pub mod Counts
pub mod Needs
pub mod Agree
pub mod References
pub mod Spots
