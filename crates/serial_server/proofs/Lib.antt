pub mod Streams
pub mod Puts
pub mod Rest
pub mod Entering
pub mod JobsServed
pub mod Settling
pub mod LineServed
pub mod Sessions
