pub mod Given
pub mod Losses
pub mod Senses
pub mod Bytes
pub mod Keeping
pub mod Numbers
pub mod Moved
pub mod Seen
