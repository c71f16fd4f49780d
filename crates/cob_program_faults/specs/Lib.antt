pub mod Identity
pub mod Names
pub mod WholeTexts
pub mod Faults
pub mod Done
pub mod Ends
pub mod Texts
pub mod Lengths
