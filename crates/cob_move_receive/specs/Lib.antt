pub mod Sent
pub mod Characters
pub mod Numbers
pub mod Received
pub mod Table
pub mod Refusals
pub mod Copying
