pub mod Anyhow
pub mod Each
pub mod Seen
pub mod Room
pub mod Told
pub mod Walked
pub mod Flowing
pub mod Explained
