pub mod Stream
pub mod Line
pub mod Memory
pub mod Standard
pub mod Reading
pub mod Buffer
pub mod Cutting
