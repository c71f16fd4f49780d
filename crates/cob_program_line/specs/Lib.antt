pub mod Numbers
pub mod Named
pub mod Faults
pub mod Lines
