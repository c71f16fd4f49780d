pub mod Orders
pub mod Walks
