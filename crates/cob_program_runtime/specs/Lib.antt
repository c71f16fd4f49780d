pub mod Streams
pub mod Extents
pub mod Files
pub mod Limits
pub mod Prints
