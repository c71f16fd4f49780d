pub mod Ends
pub mod Ignored
