pub mod Clauses
pub mod Patterns
pub mod Forms
