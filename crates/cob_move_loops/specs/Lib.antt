pub mod Words
pub mod Passages
pub mod Turns
pub mod Few
pub mod Bounded
pub mod Reading
pub mod Laws
