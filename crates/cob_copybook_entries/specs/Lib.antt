pub mod Meaning
pub mod Parts
pub mod Books
pub mod Breaks
pub mod Signs
pub mod Short
pub mod Adds
pub mod Laws
