pub mod Values
pub mod Laws
pub mod Initial
pub mod Ready
pub mod Begun
pub mod AtPlaces
