pub mod Branches
pub mod Qualifying
pub mod Namings
pub mod OneList
pub mod Counting
pub mod Links
