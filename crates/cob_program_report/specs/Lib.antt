pub mod Counts
pub mod Ends
