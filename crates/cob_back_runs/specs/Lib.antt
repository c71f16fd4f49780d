pub mod Keeps
pub mod Laws
pub mod Tested
