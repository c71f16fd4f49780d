pub mod Kinds
pub mod Described
pub mod Faults
