pub mod Walking
pub mod Own
pub mod Placing
