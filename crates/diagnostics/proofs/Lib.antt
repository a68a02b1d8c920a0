pub mod Sorting
pub mod OneList
