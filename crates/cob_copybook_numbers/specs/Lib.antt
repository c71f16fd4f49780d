pub mod Numbers
pub mod Belonging
pub mod Laws
