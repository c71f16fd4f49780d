pub mod Judged
pub mod Lengths
pub mod Taken
