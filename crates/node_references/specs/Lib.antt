pub mod Marks
pub mod Reference
pub mod References
pub mod Chains
pub mod Numbers
pub mod Numbering
pub mod Casts
pub mod Laws
