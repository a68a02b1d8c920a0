pub mod Consequences
pub mod Found
pub mod Lists
pub mod Marks
pub mod Needed
pub mod Placed
pub mod Plain
pub mod Same
