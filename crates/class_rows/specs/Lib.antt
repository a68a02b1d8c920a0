pub mod Builtins
pub mod Classes
pub mod Laws
pub mod Merge
pub mod Orders
pub mod Rows
pub mod Table
pub mod Waits
