pub mod Arguments
pub mod Held
pub mod Kept
pub mod Lines
pub mod Lists
pub mod Rows
pub mod Table
