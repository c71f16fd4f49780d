pub mod Naming
pub mod Listed
pub mod Links
pub mod Entries
pub mod Listing
pub mod Counts
pub mod Laws
