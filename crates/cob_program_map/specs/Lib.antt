pub mod Numbered
pub mod Showing
pub mod Ends
pub mod Told
pub mod Books
