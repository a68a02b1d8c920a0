pub mod Lists
pub mod OpenJobs
pub mod Waiting
pub mod Steps
pub mod OneOutput
