pub mod Forests
pub mod Branches
pub mod Nodes
pub mod Resolving
pub mod Storage
pub mod Lengths
pub mod Laws
pub mod Items
