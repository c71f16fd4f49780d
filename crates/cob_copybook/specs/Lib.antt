pub mod Codes
pub mod Records
pub mod Books
pub mod Bytes
pub mod Laws
