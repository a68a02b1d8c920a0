pub mod Doc
pub mod Finished
pub mod Machine
pub mod Journal
pub mod Jobs
pub mod Calls
pub mod Parts
