pub mod Entries
pub mod Groups
pub mod Partners
pub mod Prefixes
pub mod Verdicts
pub mod Naming
pub mod Counters
pub mod Bounds
