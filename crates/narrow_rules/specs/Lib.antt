pub mod Ground
pub mod Keep
pub mod Laws
pub mod Patterns
