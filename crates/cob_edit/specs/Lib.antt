pub mod Characters
pub mod CodePage
pub mod Editing
pub mod Pictured
pub mod Places
pub mod Regions
pub mod Rows
pub mod Deedited
