mod CastMarking
mod Chaining
pub mod Links
mod Marking
mod Ordering
mod Owning
pub mod Within
