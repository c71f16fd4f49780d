pub mod Words
pub mod Fronts
pub mod Operands
pub mod Relations
pub mod Written
pub mod Conditions
pub mod Laws
pub mod Reading
