pub mod Escapes
pub mod Shapes
pub mod Ends
pub mod Rulers
pub mod Tops
