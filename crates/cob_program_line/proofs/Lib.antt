pub mod Digits
pub mod Apps
pub mod Top
pub mod Spelled
pub mod Parts
pub mod Said
