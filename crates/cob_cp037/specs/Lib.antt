pub mod Table
pub mod Named
