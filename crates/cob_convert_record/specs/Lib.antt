pub mod Conversion
pub mod Becoming
pub mod Rejecting
pub mod Reasons
pub mod Rooms
pub mod Laws
