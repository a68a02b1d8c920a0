pub mod Laws
pub mod Line
pub mod Module
pub mod Rows
