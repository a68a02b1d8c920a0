pub mod Bytes
pub mod Served
pub mod Worked
pub mod Parts
pub mod OneJob
