pub mod Jumps
pub mod Records
pub mod Stops
pub mod Inputs
pub mod Ends
pub mod Aside
pub mod Counted
