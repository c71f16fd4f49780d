pub mod Meant
pub mod Written
pub mod Refusals
pub mod Laws
