pub mod Finished
pub mod Ends
pub mod Ran
pub mod Marks
pub mod Rejecting
