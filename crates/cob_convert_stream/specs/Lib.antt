pub mod Reasons
pub mod Sizes
pub mod Input
pub mod Output
pub mod Laws
pub mod Whole
