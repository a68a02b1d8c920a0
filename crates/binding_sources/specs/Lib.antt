pub mod Sources
pub mod Meanings
pub mod Verdicts
pub mod Points
pub mod Joining
