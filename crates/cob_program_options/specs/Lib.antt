pub mod Options
pub mod Rules
pub mod Looks
pub mod Commands
pub mod Program
pub mod Definitions
