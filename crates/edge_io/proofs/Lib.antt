pub mod Cuts
pub mod Streams
pub mod Lines
pub mod Buffers
pub mod Readings
