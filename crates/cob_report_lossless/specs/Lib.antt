pub mod Lacks
pub mod Lines
pub mod Turned
