pub mod Below
pub mod Classes
pub mod Nodes
pub mod Outward
pub mod Passes
pub mod Sets
pub mod Walks
pub mod Whole
