pub mod Values
pub mod Choices
pub mod Asked
pub mod Laws
