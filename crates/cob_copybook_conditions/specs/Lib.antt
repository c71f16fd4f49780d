pub mod Written
pub mod Entries
pub mod Names
pub mod Reading
pub mod Refusals
pub mod Laws
