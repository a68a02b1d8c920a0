pub mod Messages
pub mod SortedList
pub mod Spelling
